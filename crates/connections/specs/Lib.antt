pub mod Box
pub mod Inner
