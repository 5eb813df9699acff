pub mod Box
pub mod Node
pub mod Inner
