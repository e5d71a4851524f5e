-- Operators on numbers and on lists of numbers: what each is where its operands are there everywhere.
use Rattle.std.proofs.Common.{◌≡◌, refl, true, false}
use Rattle.ess_semantics.specs.declared.words.Op1.{Op1}
use Rattle.ess_semantics.specs.declared.words.Op2.{Op2}
use Rattle.ess_semantics.specs.declared.words.Fun.{Fun}
use Rattle.ess_semantics.specs.Trees.{Op, unary, binary, word, index, application, tuple_literal, set_literal, mset_literal, function_literal, relation_literal, partition_literal, matrix_literal, record_literal, Exs, node_ex, no_exs, more_exs}
use Rattle.ess_refine_laws.specs.Everywhere.{everywhere, everywhere_exs}
use Rattle.ess_rules_everywhere.specs.NumberNodes.{is_number_op, is_fold_op, guarded_op, folded_op, everywhere_lists}

-- An operator on numbers.
pub number_everywhere : (op : Op) (es : Exs) → true ≡ is_number_op op es → everywhere (node_ex false op es) ≡ guarded_op op (everywhere_exs es)
number_everywhere (unary Op1.Minus) no_exs h = let k : true ≡ false = h in cc
number_everywhere (unary Op1.Minus) (more_exs a no_exs) h = refl
number_everywhere (unary Op1.Minus) (more_exs a (more_exs b no_exs)) h = let k : true ≡ false = h in cc
number_everywhere (unary Op1.Minus) (more_exs a (more_exs b (more_exs c es))) h = let k : true ≡ false = h in cc
number_everywhere (unary Op1.Bar) no_exs h = let k : true ≡ false = h in cc
number_everywhere (unary Op1.Bar) (more_exs a no_exs) h = refl
number_everywhere (unary Op1.Bar) (more_exs a (more_exs b no_exs)) h = let k : true ≡ false = h in cc
number_everywhere (unary Op1.Bar) (more_exs a (more_exs b (more_exs c es))) h = let k : true ≡ false = h in cc
number_everywhere (unary Op1.Not) es h = let k : true ≡ false = h in cc
number_everywhere (binary Op2.Pow) no_exs h = let k : true ≡ false = h in cc
number_everywhere (binary Op2.Pow) (more_exs a no_exs) h = let k : true ≡ false = h in cc
number_everywhere (binary Op2.Pow) (more_exs a (more_exs b no_exs)) h = refl
number_everywhere (binary Op2.Pow) (more_exs a (more_exs b (more_exs c es))) h = let k : true ≡ false = h in cc
number_everywhere (binary Op2.Times) no_exs h = let k : true ≡ false = h in cc
number_everywhere (binary Op2.Times) (more_exs a no_exs) h = let k : true ≡ false = h in cc
number_everywhere (binary Op2.Times) (more_exs a (more_exs b no_exs)) h = refl
number_everywhere (binary Op2.Times) (more_exs a (more_exs b (more_exs c es))) h = let k : true ≡ false = h in cc
number_everywhere (binary Op2.Div) no_exs h = let k : true ≡ false = h in cc
number_everywhere (binary Op2.Div) (more_exs a no_exs) h = let k : true ≡ false = h in cc
number_everywhere (binary Op2.Div) (more_exs a (more_exs b no_exs)) h = refl
number_everywhere (binary Op2.Div) (more_exs a (more_exs b (more_exs c es))) h = let k : true ≡ false = h in cc
number_everywhere (binary Op2.Mod) no_exs h = let k : true ≡ false = h in cc
number_everywhere (binary Op2.Mod) (more_exs a no_exs) h = let k : true ≡ false = h in cc
number_everywhere (binary Op2.Mod) (more_exs a (more_exs b no_exs)) h = refl
number_everywhere (binary Op2.Mod) (more_exs a (more_exs b (more_exs c es))) h = let k : true ≡ false = h in cc
number_everywhere (binary Op2.Intersect) es h = let k : true ≡ false = h in cc
number_everywhere (binary Op2.Plus) no_exs h = let k : true ≡ false = h in cc
number_everywhere (binary Op2.Plus) (more_exs a no_exs) h = let k : true ≡ false = h in cc
number_everywhere (binary Op2.Plus) (more_exs a (more_exs b no_exs)) h = refl
number_everywhere (binary Op2.Plus) (more_exs a (more_exs b (more_exs c es))) h = let k : true ≡ false = h in cc
number_everywhere (binary Op2.Minus) no_exs h = let k : true ≡ false = h in cc
number_everywhere (binary Op2.Minus) (more_exs a no_exs) h = let k : true ≡ false = h in cc
number_everywhere (binary Op2.Minus) (more_exs a (more_exs b no_exs)) h = refl
number_everywhere (binary Op2.Minus) (more_exs a (more_exs b (more_exs c es))) h = let k : true ≡ false = h in cc
number_everywhere (binary Op2.Union) es h = let k : true ≡ false = h in cc
number_everywhere (binary Op2.Eq) es h = let k : true ≡ false = h in cc
number_everywhere (binary Op2.Ne) es h = let k : true ≡ false = h in cc
number_everywhere (binary Op2.Lt) es h = let k : true ≡ false = h in cc
number_everywhere (binary Op2.Le) es h = let k : true ≡ false = h in cc
number_everywhere (binary Op2.Gt) es h = let k : true ≡ false = h in cc
number_everywhere (binary Op2.Ge) es h = let k : true ≡ false = h in cc
number_everywhere (binary Op2.LexLt) es h = let k : true ≡ false = h in cc
number_everywhere (binary Op2.LexLe) es h = let k : true ≡ false = h in cc
number_everywhere (binary Op2.LexGt) es h = let k : true ≡ false = h in cc
number_everywhere (binary Op2.LexGe) es h = let k : true ≡ false = h in cc
number_everywhere (binary Op2.Member) es h = let k : true ≡ false = h in cc
number_everywhere (binary Op2.Subset) es h = let k : true ≡ false = h in cc
number_everywhere (binary Op2.SubsetEq) es h = let k : true ≡ false = h in cc
number_everywhere (binary Op2.Supset) es h = let k : true ≡ false = h in cc
number_everywhere (binary Op2.SupsetEq) es h = let k : true ≡ false = h in cc
number_everywhere (binary Op2.And) es h = let k : true ≡ false = h in cc
number_everywhere (binary Op2.Or) es h = let k : true ≡ false = h in cc
number_everywhere (binary Op2.Implies) es h = let k : true ≡ false = h in cc
number_everywhere (binary Op2.Iff) es h = let k : true ≡ false = h in cc
number_everywhere (word f) es h = let k : true ≡ false = h in cc
number_everywhere (index ss) es h = let k : true ≡ false = h in cc
number_everywhere application es h = let k : true ≡ false = h in cc
number_everywhere tuple_literal es h = let k : true ≡ false = h in cc
number_everywhere set_literal es h = let k : true ≡ false = h in cc
number_everywhere mset_literal es h = let k : true ≡ false = h in cc
number_everywhere function_literal es h = let k : true ≡ false = h in cc
number_everywhere relation_literal es h = let k : true ≡ false = h in cc
number_everywhere partition_literal es h = let k : true ≡ false = h in cc
number_everywhere matrix_literal es h = let k : true ≡ false = h in cc
number_everywhere (record_literal fs) es h = let k : true ≡ false = h in cc

-- A fold of a list of numbers.
pub fold_everywhere : (op : Op) (es : Exs) → true ≡ is_fold_op op es → everywhere (node_ex false op es) ≡ folded_op op (everywhere_lists es)
fold_everywhere (unary o) es h = let k : true ≡ false = h in cc
fold_everywhere (binary o) es h = let k : true ≡ false = h in cc
fold_everywhere (word Fun.Sum) no_exs h = let k : true ≡ false = h in cc
fold_everywhere (word Fun.Sum) (more_exs a no_exs) h = refl
fold_everywhere (word Fun.Sum) (more_exs a (more_exs b no_exs)) h = let k : true ≡ false = h in cc
fold_everywhere (word Fun.Sum) (more_exs a (more_exs b (more_exs c es))) h = let k : true ≡ false = h in cc
fold_everywhere (word Fun.Product) no_exs h = let k : true ≡ false = h in cc
fold_everywhere (word Fun.Product) (more_exs a no_exs) h = refl
fold_everywhere (word Fun.Product) (more_exs a (more_exs b no_exs)) h = let k : true ≡ false = h in cc
fold_everywhere (word Fun.Product) (more_exs a (more_exs b (more_exs c es))) h = let k : true ≡ false = h in cc
fold_everywhere (word Fun.And) es h = let k : true ≡ false = h in cc
fold_everywhere (word Fun.Or) es h = let k : true ≡ false = h in cc
fold_everywhere (word Fun.Min) no_exs h = let k : true ≡ false = h in cc
fold_everywhere (word Fun.Min) (more_exs a no_exs) h = refl
fold_everywhere (word Fun.Min) (more_exs a (more_exs b no_exs)) h = let k : true ≡ false = h in cc
fold_everywhere (word Fun.Min) (more_exs a (more_exs b (more_exs c es))) h = let k : true ≡ false = h in cc
fold_everywhere (word Fun.Max) no_exs h = let k : true ≡ false = h in cc
fold_everywhere (word Fun.Max) (more_exs a no_exs) h = refl
fold_everywhere (word Fun.Max) (more_exs a (more_exs b no_exs)) h = let k : true ≡ false = h in cc
fold_everywhere (word Fun.Max) (more_exs a (more_exs b (more_exs c es))) h = let k : true ≡ false = h in cc
fold_everywhere (word Fun.AllDiff) es h = let k : true ≡ false = h in cc
fold_everywhere (word Fun.ToInt) es h = let k : true ≡ false = h in cc
fold_everywhere (word Fun.Image) es h = let k : true ≡ false = h in cc
fold_everywhere (word Fun.PreImage) es h = let k : true ≡ false = h in cc
fold_everywhere (word Fun.Defined) es h = let k : true ≡ false = h in cc
fold_everywhere (word Fun.Range) es h = let k : true ≡ false = h in cc
fold_everywhere (word Fun.ToSet) es h = let k : true ≡ false = h in cc
fold_everywhere (word Fun.ToMSet) es h = let k : true ≡ false = h in cc
fold_everywhere (word Fun.ToRelation) es h = let k : true ≡ false = h in cc
fold_everywhere (word Fun.Freq) es h = let k : true ≡ false = h in cc
fold_everywhere (word Fun.Parts) es h = let k : true ≡ false = h in cc
fold_everywhere (word Fun.Party) es h = let k : true ≡ false = h in cc
fold_everywhere (word Fun.Participants) es h = let k : true ≡ false = h in cc
fold_everywhere (word Fun.Together) es h = let k : true ≡ false = h in cc
fold_everywhere (index ss) es h = let k : true ≡ false = h in cc
fold_everywhere application es h = let k : true ≡ false = h in cc
fold_everywhere tuple_literal es h = let k : true ≡ false = h in cc
fold_everywhere set_literal es h = let k : true ≡ false = h in cc
fold_everywhere mset_literal es h = let k : true ≡ false = h in cc
fold_everywhere function_literal es h = let k : true ≡ false = h in cc
fold_everywhere relation_literal es h = let k : true ≡ false = h in cc
fold_everywhere partition_literal es h = let k : true ≡ false = h in cc
fold_everywhere matrix_literal es h = let k : true ≡ false = h in cc
fold_everywhere (record_literal fs) es h = let k : true ≡ false = h in cc
