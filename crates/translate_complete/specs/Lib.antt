pub mod Assigned
pub mod AssignedOverLists
pub mod Complete
pub mod CompleteOverLists
