pub mod ListingsMarked
