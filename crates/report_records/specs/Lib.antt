-- The records of faults.
pub mod RecordsModel
