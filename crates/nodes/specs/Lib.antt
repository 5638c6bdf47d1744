-- What a node's words say.
pub mod Nodes
