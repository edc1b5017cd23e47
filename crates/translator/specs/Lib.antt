pub mod Groups
pub mod GroupsOverLists
pub mod Tables
pub mod TablesOverLists
pub mod Translates
