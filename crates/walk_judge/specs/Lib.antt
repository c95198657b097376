-- The judgement of a read.
pub mod JudgeModel
