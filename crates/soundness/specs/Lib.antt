-- The definitions that the theorems of soundness cite.
pub mod Sound
pub mod LinkDid
pub mod ProbeCycle
