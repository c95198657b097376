-- Search holds for any names; that the tables of src/lib.rt keep the rule is computed by the check of `names`.
pub mod Search
