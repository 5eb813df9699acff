pub mod FlatLookup
pub mod Promises
