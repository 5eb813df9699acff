pub mod PeerWalk
pub mod Inner
