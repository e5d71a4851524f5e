pub mod SteadyTrees
