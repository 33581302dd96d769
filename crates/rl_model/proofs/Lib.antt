mod ChoiceExamples
mod ExampleTrees
pub mod ExampleUnits
pub mod Examples
mod KindExamples
mod MeaningExamples
mod MoreExamples
mod DeadExamples
mod SupportedExamples
mod WholeExamples
mod WordExamples
