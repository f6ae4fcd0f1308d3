pub mod Behind
pub mod RecordEnds
