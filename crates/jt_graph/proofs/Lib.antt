pub mod DepthFirstSearch
