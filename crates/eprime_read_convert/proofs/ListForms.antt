-- Which expressions are lists.
use Rattle.std.proofs.Common.{◌≡◌, sym, ap, ◌∙◌, subst, false, List, Option}
use Rattle.ess_core.specs.TreeViews.{pure_ex}
use Rattle.ess_core.specs.declared.domains.Dom.{Dom}
use Rattle.ess_core.specs.declared.domains.Range.{Range}
use Rattle.ess_core.specs.declared.domains.Attr.{Attr}
use Rattle.ess_core.specs.declared.domains.FieldDom.{FieldDom}
use Rattle.ess_core.specs.declared.expressions.Ex.{Ex}
use Rattle.ess_core.specs.declared.expressions.Gen.{Gen}
use Rattle.ess_core.specs.declared.expressions.Step.{Step}
use Rattle.ess_core.specs.declared.expressions.FieldEx.{FieldEx}
use Rattle.ess_core.specs.declared.expressions.PairEx.{PairEx}
use Rattle.ess_core.specs.declared.expressions.View.{View}
use Rattle.ess_core.specs.declared.domains.Dom.TheOpen.{Ex-F}
use Rattle.ess_core.specs.declared.domains.Dom.TheViews.{out-Ex, roll-Ex, roll-out-Ex}
use Rattle.ess_core.specs.declared.expressions.Ex.TheVariants as ex
use Rattle.ess_core.proofs.ExpressionEquations.{pure_num, pure_truth, pure_name, pure_one, pure_two, pure_call, pure_at, pure_apply, pure_tuple, pure_rec, pure_set, pure_mset, pure_function, pure_relation, pure_partition, pure_cell, pure_seen}
use Rattle.ess_core.proofs.PartEquations.{pure_view_is}
use Rattle.eprime_read_convert.proofs.ModelNodes.{is_list_form}

-- The same of the tree of an expression.
abbrev no_list : Ex → Type 0
no_list e = is_list_form (pure_ex e) ≡ false

alike : {e : Ex} (d : Ex) → e ≡ d → no_list d → no_list e
alike d h k = ap (λ e. is_list_form (pure_ex e)) h ∙ k

layer : (x : Ex-F Dom Range Ex Gen Step Attr FieldDom FieldEx PairEx View) → ((xs : List Ex) (d : Option Dom) → roll-Ex x ≡ ex.Matrix xs d → ⊥) → ((b : Ex) (gs : List Gen) → roll-Ex x ≡ ex.Comp b gs → ⊥) → no_list (roll-Ex x)
layer (Ex-F.Num n) h k = alike (ex.Num n) (ex.rolls-Num n) (ap is_list_form (pure_num n))
layer (Ex-F.Truth b) h k = alike (ex.Truth b) (ex.rolls-Truth b) (ap is_list_form (pure_truth b))
layer (Ex-F.Ex::Name a) h k = alike (ex.Name a) (ex.rolls-Name a) (ap is_list_form (pure_name a))
layer (Ex-F.Ex::One o a) h k = alike (ex.One o a) (ex.rolls-One o a) (ap is_list_form (pure_one o a))
layer (Ex-F.Two o a b) h k = alike (ex.Two o a b) (ex.rolls-Two o a b) (ap is_list_form (pure_two o a b))
layer (Ex-F.Call b f es) h k = alike (ex.Call b f es) (ex.rolls-Call b f es) (ap is_list_form (pure_call b f es))
layer (Ex-F.At b e ss) h k = alike (ex.At b e ss) (ex.rolls-At b e ss) (ap is_list_form (pure_at b e ss))
layer (Ex-F.Apply b f es) h k = alike (ex.Apply b f es) (ex.rolls-Apply b f es) (ap is_list_form (pure_apply b f es))
layer (Ex-F.Ex::Tuple es) h k = alike (ex.Tuple es) (ex.rolls-Tuple es) (ap is_list_form (pure_tuple es))
layer (Ex-F.Ex::Rec fs) h k = alike (ex.Rec fs) (ex.rolls-Rec fs) (ap is_list_form (pure_rec fs))
layer (Ex-F.Ex::Set es) h k = alike (ex.Set es) (ex.rolls-Set es) (ap is_list_form (pure_set es))
layer (Ex-F.Ex::MSet es) h k = alike (ex.MSet es) (ex.rolls-MSet es) (ap is_list_form (pure_mset es))
layer (Ex-F.Ex::Function ps) h k = alike (ex.Function ps) (ex.rolls-Function ps) (ap is_list_form (pure_function ps))
layer (Ex-F.Ex::Relation es) h k = alike (ex.Relation es) (ex.rolls-Relation es) (ap is_list_form (pure_relation es))
layer (Ex-F.Ex::Partition es) h k = alike (ex.Partition es) (ex.rolls-Partition es) (ap is_list_form (pure_partition es))
layer (Ex-F.Ex::Matrix es d) h k = absurd (h es d (ex.rolls-Matrix es d))
layer (Ex-F.Comp e gs) h k = absurd (k e gs (ex.rolls-Comp e gs))
layer (Ex-F.Cell b a es) h k = alike (ex.Cell b a es) (ex.rolls-Cell b a es) (ap is_list_form (pure_cell b a es))
layer (Ex-F.Seen v) h k = alike (ex.Seen v) (ex.rolls-Seen v) (ap is_list_form (pure_seen v ∙ pure_view_is v))

-- What is neither a matrix literal nor a comprehension is no list.
pub not_list : (e : Ex) → ((xs : List Ex) (d : Option Dom) → e ≡ ex.Matrix xs d → ⊥) → ((b : Ex) (gs : List Gen) → e ≡ ex.Comp b gs → ⊥) → is_list_form (pure_ex e) ≡ false
not_list e h k = let r = roll-out-Ex e in subst no_list r (layer (out-Ex e) (λ xs d q. h xs d (sym r ∙ q)) (λ b gs q. k b gs (sym r ∙ q)))
