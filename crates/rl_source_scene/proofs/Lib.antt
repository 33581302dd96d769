pub mod ElementParts
pub mod EntityLists
pub mod FunctionFits
pub mod Keeping
