pub mod SourceTraced
