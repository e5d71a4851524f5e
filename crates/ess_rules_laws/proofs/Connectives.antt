-- What connectives and quantifiers mean, from what their operands mean.
pub use Rattle.ess_semantics.proofs.Connectives.{and-means, or-means, implies-means, iff-means, not-means, binary-means, all-means, any-means, bits, collect-bits, all-bits, any-bits}
