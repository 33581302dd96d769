pub mod Accepted
pub mod AcceptedPatterns
pub mod Alike
pub mod AlikeCalls
pub mod AlikeExpressions
pub mod AlikeParams
pub mod AlikePatterns
pub mod CalmTrees
mod ChainExamples
pub mod CountedCode
pub mod CountedLives
pub mod CountedOnce
pub mod CoveredForms
pub mod CoveredNames
pub mod CoveredWorlds
pub mod Covering
pub mod EarlyNames
mod Examples
pub mod DeclarationSpans
pub mod FirstDeclarations
pub mod FormedParts
pub mod FunctionKinds
pub mod FunctionParts
mod HeadExamples
pub mod HeldOnce
pub mod InnerScopes
pub mod KeptChains
pub mod KeptVariables
pub mod LocalVariables
mod LoopExamples
pub mod LoopHeads
pub mod LowerableTrees
pub mod Mentioned
pub mod NoContexts
pub mod OrderlyCalls
pub mod OrderlyItems
pub mod OrderlyPatterns
pub mod ParameterDeclarations
pub mod ParameterSites
pub mod ParameterUses
mod PatternExamples
pub mod PlainNames
pub mod Quiet
pub mod ReadNames
pub mod ReferenceRanges
pub mod ReferencesAround
pub mod RelatedPatterns
pub mod RelatedStores
mod RowExamples
pub mod Rounds
pub mod SetStores
pub mod SmallNames
pub mod SteadyTargets
pub mod SteadyTests
mod SwitchExamples
pub mod ToldApart
pub mod Unheld
pub mod Unwrapped
pub mod VariableKinds
pub mod VariableTrees
