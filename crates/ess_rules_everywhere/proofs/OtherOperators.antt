-- Operators that are neither on numbers nor on lists of numbers stay as they are.
use Rattle.std.proofs.Common.{◌≡◌, refl, true, false}
use Rattle.ess_semantics.specs.declared.words.Op1.{Op1}
use Rattle.ess_semantics.specs.declared.words.Op2.{Op2}
use Rattle.ess_semantics.specs.declared.words.Fun.{Fun}
use Rattle.ess_semantics.specs.Trees.{Op, unary, binary, word, index, application, tuple_literal, set_literal, mset_literal, function_literal, relation_literal, partition_literal, matrix_literal, record_literal, Exs, node_ex, no_exs, more_exs}
use Rattle.ess_refine_laws.specs.Everywhere.{everywhere}
use Rattle.ess_rules_everywhere.specs.NumberNodes.{is_number_op, is_fold_op}

-- Where it is neither.
pub other_everywhere : (op : Op) (es : Exs) → false ≡ is_number_op op es → false ≡ is_fold_op op es
    → everywhere (node_ex false op es) ≡ node_ex false op es
other_everywhere (unary Op1.Minus) no_exs h g = refl
other_everywhere (unary Op1.Minus) (more_exs a no_exs) h g = let k : false ≡ true = h in cc
other_everywhere (unary Op1.Minus) (more_exs a (more_exs b no_exs)) h g = refl
other_everywhere (unary Op1.Minus) (more_exs a (more_exs b (more_exs c es))) h g = refl
other_everywhere (unary Op1.Bar) no_exs h g = refl
other_everywhere (unary Op1.Bar) (more_exs a no_exs) h g = let k : false ≡ true = h in cc
other_everywhere (unary Op1.Bar) (more_exs a (more_exs b no_exs)) h g = refl
other_everywhere (unary Op1.Bar) (more_exs a (more_exs b (more_exs c es))) h g = refl
other_everywhere (unary Op1.Not) es h g = refl
other_everywhere (binary Op2.Pow) no_exs h g = refl
other_everywhere (binary Op2.Pow) (more_exs a no_exs) h g = refl
other_everywhere (binary Op2.Pow) (more_exs a (more_exs b no_exs)) h g = let k : false ≡ true = h in cc
other_everywhere (binary Op2.Pow) (more_exs a (more_exs b (more_exs c es))) h g = refl
other_everywhere (binary Op2.Times) no_exs h g = refl
other_everywhere (binary Op2.Times) (more_exs a no_exs) h g = refl
other_everywhere (binary Op2.Times) (more_exs a (more_exs b no_exs)) h g = let k : false ≡ true = h in cc
other_everywhere (binary Op2.Times) (more_exs a (more_exs b (more_exs c es))) h g = refl
other_everywhere (binary Op2.Div) no_exs h g = refl
other_everywhere (binary Op2.Div) (more_exs a no_exs) h g = refl
other_everywhere (binary Op2.Div) (more_exs a (more_exs b no_exs)) h g = let k : false ≡ true = h in cc
other_everywhere (binary Op2.Div) (more_exs a (more_exs b (more_exs c es))) h g = refl
other_everywhere (binary Op2.Mod) no_exs h g = refl
other_everywhere (binary Op2.Mod) (more_exs a no_exs) h g = refl
other_everywhere (binary Op2.Mod) (more_exs a (more_exs b no_exs)) h g = let k : false ≡ true = h in cc
other_everywhere (binary Op2.Mod) (more_exs a (more_exs b (more_exs c es))) h g = refl
other_everywhere (binary Op2.Intersect) es h g = refl
other_everywhere (binary Op2.Plus) no_exs h g = refl
other_everywhere (binary Op2.Plus) (more_exs a no_exs) h g = refl
other_everywhere (binary Op2.Plus) (more_exs a (more_exs b no_exs)) h g = let k : false ≡ true = h in cc
other_everywhere (binary Op2.Plus) (more_exs a (more_exs b (more_exs c es))) h g = refl
other_everywhere (binary Op2.Minus) no_exs h g = refl
other_everywhere (binary Op2.Minus) (more_exs a no_exs) h g = refl
other_everywhere (binary Op2.Minus) (more_exs a (more_exs b no_exs)) h g = let k : false ≡ true = h in cc
other_everywhere (binary Op2.Minus) (more_exs a (more_exs b (more_exs c es))) h g = refl
other_everywhere (binary Op2.Union) es h g = refl
other_everywhere (binary Op2.Eq) es h g = refl
other_everywhere (binary Op2.Ne) es h g = refl
other_everywhere (binary Op2.Lt) es h g = refl
other_everywhere (binary Op2.Le) es h g = refl
other_everywhere (binary Op2.Gt) es h g = refl
other_everywhere (binary Op2.Ge) es h g = refl
other_everywhere (binary Op2.LexLt) es h g = refl
other_everywhere (binary Op2.LexLe) es h g = refl
other_everywhere (binary Op2.LexGt) es h g = refl
other_everywhere (binary Op2.LexGe) es h g = refl
other_everywhere (binary Op2.Member) es h g = refl
other_everywhere (binary Op2.Subset) es h g = refl
other_everywhere (binary Op2.SubsetEq) es h g = refl
other_everywhere (binary Op2.Supset) es h g = refl
other_everywhere (binary Op2.SupsetEq) es h g = refl
other_everywhere (binary Op2.And) es h g = refl
other_everywhere (binary Op2.Or) es h g = refl
other_everywhere (binary Op2.Implies) es h g = refl
other_everywhere (binary Op2.Iff) es h g = refl
other_everywhere (word Fun.Sum) no_exs h g = refl
other_everywhere (word Fun.Sum) (more_exs a no_exs) h g = let k : false ≡ true = g in cc
other_everywhere (word Fun.Sum) (more_exs a (more_exs b no_exs)) h g = refl
other_everywhere (word Fun.Sum) (more_exs a (more_exs b (more_exs c es))) h g = refl
other_everywhere (word Fun.Product) no_exs h g = refl
other_everywhere (word Fun.Product) (more_exs a no_exs) h g = let k : false ≡ true = g in cc
other_everywhere (word Fun.Product) (more_exs a (more_exs b no_exs)) h g = refl
other_everywhere (word Fun.Product) (more_exs a (more_exs b (more_exs c es))) h g = refl
other_everywhere (word Fun.And) es h g = refl
other_everywhere (word Fun.Or) es h g = refl
other_everywhere (word Fun.Min) no_exs h g = refl
other_everywhere (word Fun.Min) (more_exs a no_exs) h g = let k : false ≡ true = g in cc
other_everywhere (word Fun.Min) (more_exs a (more_exs b no_exs)) h g = refl
other_everywhere (word Fun.Min) (more_exs a (more_exs b (more_exs c es))) h g = refl
other_everywhere (word Fun.Max) no_exs h g = refl
other_everywhere (word Fun.Max) (more_exs a no_exs) h g = let k : false ≡ true = g in cc
other_everywhere (word Fun.Max) (more_exs a (more_exs b no_exs)) h g = refl
other_everywhere (word Fun.Max) (more_exs a (more_exs b (more_exs c es))) h g = refl
other_everywhere (word Fun.AllDiff) es h g = refl
other_everywhere (word Fun.ToInt) es h g = refl
other_everywhere (word Fun.Image) es h g = refl
other_everywhere (word Fun.PreImage) es h g = refl
other_everywhere (word Fun.Defined) es h g = refl
other_everywhere (word Fun.Range) es h g = refl
other_everywhere (word Fun.ToSet) es h g = refl
other_everywhere (word Fun.ToMSet) es h g = refl
other_everywhere (word Fun.ToRelation) es h g = refl
other_everywhere (word Fun.Freq) es h g = refl
other_everywhere (word Fun.Parts) es h g = refl
other_everywhere (word Fun.Party) es h g = refl
other_everywhere (word Fun.Participants) es h g = refl
other_everywhere (word Fun.Together) es h g = refl
other_everywhere (index ss) es h g = refl
other_everywhere application es h g = refl
other_everywhere tuple_literal es h g = refl
other_everywhere set_literal es h g = refl
other_everywhere mset_literal es h g = refl
other_everywhere function_literal es h g = refl
other_everywhere relation_literal es h g = refl
other_everywhere partition_literal es h g = refl
other_everywhere matrix_literal es h g = refl
other_everywhere (record_literal fs) es h g = refl
