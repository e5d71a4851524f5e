-- Rules of openings have what they count on, and keep what they rewrite, where there are values.
use Rattle.std.proofs.Common.{◌≡◌, refl, Bool, true, false, ◌&&◌, ◌||◌, Some}
use Rattle.std.specs.Prelude.{IsTrue, is_some}
use Rattle.ess_semantics.specs.declared.words.Op2.{Op2}
use Rattle.ess_semantics.specs.declared.words.Fun.{Fun}
use Rattle.ess_semantics.specs.Names.{Names}
use Rattle.ess_semantics.specs.Trees.{binary, word, name_pat, Ex, comp_ex, ex2, fun1, no_exs, more_exs, from}
use Rattle.ess_semantics.specs.Types.{Ty}
use Rattle.ess_semantics.specs.Typed.{Typed}
use Rattle.ess_semantics.specs.Meaning.{Env, meaning}
use Rattle.ess_semantics.specs.Meets.{Meets}
use Rattle.ess_semantics.specs.Kept.{Keeps}
use Rattle.ess_semantics.specs.Contexts.{guards}
use Rattle.ess_semantics.proofs.Tests.{and-left}
use Rattle.ess_guard_laws.specs.Guard.{compares}
use Rattle.ess_rules_laws.specs.Rules.{OperandsThere}
use Rattle.ess_rules_laws.specs.ListRules.{is_lex}
use Rattle.ess_refine_laws.specs.ItemsOnce.{ItemsOnceOffer}
use Rattle.ess_refine_laws.specs.AllRules.{Supply}
use Rattle.ess_values_along_laws.specs.Valued.{Valued}
use Rattle.ess_values_along_laws.proofs.ValuesAlong.{values-along}
use Rattle.ess_values_terms_laws.proofs.ValuedForms.{and-no}
use Rattle.ess_kinds_kept_laws.proofs.KindRulesKeep.{under-test}
use Rattle.ess_open_rules_laws.specs.OpenSources.{is_placed, plain_list}
use Rattle.ess_open_rules_laws.specs.OpenRules.{OpenRule, step_by_step, applied_relation, of_a_pick, a_pick_alone, without_repeats, without_its_indices, over_one_source, over_what_is_picked, least_over_several, set_over_several, different_by_counts, in_order_of_its_source, fold_of_folds, set_of_a_term, open_rewrite}
use Rattle.ess_open_kept_laws.specs.OpenAsks.{OpenAsks}
use Rattle.ess_open_kept_laws.proofs.OpenRulesKeep.{open-rules-keep}
use Rattle.ess_open_counted_laws.specs.OpensCounted.{OpenBeside, is_of_picks, OpensAreCountedOn}
use Rattle.ess_open_counted_laws.proofs.PicksCounted.{picks-are-counted-on}
use Rattle.ess_open_counted_laws.proofs.OpenedCounted.{opened-asked, numbers-asked, source-picked}
use Rattle.ess_open_counted_laws.proofs.InOrderCounted.{kept-behind-asked}

-- A sign between lists neither guards nor compares.
lex : (o : Op2) → is_lex o ≡ true → (guards (binary o) ≡ false) × (compares (binary o) ≡ false)
lex Op2.LexLt h = (refl, refl)
lex Op2.LexLe h = (refl, refl)
lex Op2.LexGt h = (refl, refl)
lex Op2.LexGe h = (refl, refl)
lex _ h = cc

module _ (once : ItemsOnceOffer) (s : Supply) (g : Names Ty) (env : Env) (typed : Typed g env) (w : Bool) where
  -- ---- operands

  -- The operand of a word is there.
  word-there : (m v : Bool) (h : Fun) (l : Ex) → Valued v (fun1 m h l) env → OperandsThere (fun1 m h l) env
  word-there true v h l n = values-along.operands v true (word h) (more_exs l no_exs) env refl refl n
  word-there false v h l n = values-along.operands v false (word h) (more_exs l no_exs) env refl (and-no v) n

  plain-lists : (e f : Ex) → open_rewrite s g without_its_indices e ≡ Some f → Valued w e env → OperandsThere e env
  plain-lists (ex2 true o a b) f q v =
      let k = lex o (and-left (is_lex o) (is_placed a || is_placed b) (under-test (is_lex o && (is_placed a || is_placed b))
      (Some (ex2 true o (plain_list a) (plain_list b))) f q).0) in
      values-along.operands w true (binary o) (more_exs a (more_exs b no_exs)) env k.0 k.1 v
  plain-lists (fun1 m h t) f q v = word-there m w h t v
  plain-lists _ f q v = cc

  nested-there : (e f : Ex) → open_rewrite s g fold_of_folds e ≡ Some f → Valued w e env → OperandsThere e env
  nested-there (fun1 m h (comp_ex e gs)) f q v = word-there m w h (comp_ex e gs) v
  nested-there _ f q v = cc

  picked-over : (e f : Ex) → open_rewrite s g over_what_is_picked e ≡ Some f → Valued w e env → OperandsThere e env
  picked-over (fun1 m h (comp_ex e (from (name_pat y) t hs))) f q v = word-there m w h (comp_ex e (from (name_pat y) t hs)) v
  picked-over _ f q v = cc

  set-there : (e f : Ex) → open_rewrite s g set_over_several e ≡ Some f → Valued w e env → OperandsThere e env
  set-there (fun1 false Fun.ToSet (comp_ex e gs)) f q v = word-there false w Fun.ToSet (comp_ex e gs) v
  set-there _ f q v = cc

  least-there : (e f : Ex) → open_rewrite s g least_over_several e ≡ Some f → Valued w e env →
      IsTrue (is_some (meaning e env)) × OperandsThere e env
  least-there (fun1 false h (comp_ex e gs)) f q v =
      (values-along.value w (fun1 false h (comp_ex e gs)) env (and-no w) v, word-there false w h (comp_ex e gs) v)
  least-there _ f q v = cc

  -- ---- each rule

  each-asked : (r : OpenRule) (e f : Ex) → open_rewrite s g r e ≡ Some f → is_of_picks r ≡ false → OpenBeside s g r e env → Valued w e env →
      Meets e env → OpenAsks s g r e env
  each-asked step_by_step e f q p c v m = tt
  each-asked applied_relation e f q p c v m = c
  each-asked of_a_pick e f q p c v m = cc
  each-asked a_pick_alone e f q p c v m = cc
  each-asked without_repeats e f q p c v m = tt
  each-asked without_its_indices e f q p c v m = plain-lists e f q v
  each-asked over_one_source e f q p c v m = opened-asked once s g env typed w e v m c
  each-asked over_what_is_picked e f q p c v m = (source-picked once s g env typed w e v c, picked-over e f q v)
  each-asked least_over_several e f q p c v m = let t = least-there e f q v in
      (t.0, t.1, opened-asked once s g env typed w e v m c.0, numbers-asked once s g env typed w e v m c.0 c.1)
  each-asked set_over_several e f q p c v m = (opened-asked once s g env typed w e v m c, set-there e f q v)
  each-asked different_by_counts e f q p c v m = c
  each-asked in_order_of_its_source e f q p c v m = kept-behind-asked s g env typed w e v m c
  each-asked fold_of_folds e f q p c v m = nested-there e f q v
  each-asked set_of_a_term e f q p c v m = tt

  by-asked : (r : OpenRule) (e f : Ex) → open_rewrite s g r e ≡ Some f → is_of_picks r ≡ false → OpenBeside s g r e env → Valued w e env →
      Keeps e f env
  by-asked r e f q p c v m = open-rules-keep.each s g r e f q env typed (each-asked r e f q p c v m) m

  each-kept : (r : OpenRule) (e f : Ex) → open_rewrite s g r e ≡ Some f → OpenBeside s g r e env → Valued w e env → Keeps e f env
  each-kept of_a_pick e f q c v = picks-are-counted-on.of_a_pick s g e f q c.0 c.1 env typed c.2 w v
  each-kept a_pick_alone e f q c v = picks-are-counted-on.a_pick_alone s g e f q c.0 env typed c.1 w v
  each-kept step_by_step e f q c v = by-asked step_by_step e f q refl c v
  each-kept applied_relation e f q c v = by-asked applied_relation e f q refl c v
  each-kept without_repeats e f q c v = by-asked without_repeats e f q refl c v
  each-kept without_its_indices e f q c v = by-asked without_its_indices e f q refl c v
  each-kept over_one_source e f q c v = by-asked over_one_source e f q refl c v
  each-kept over_what_is_picked e f q c v = by-asked over_what_is_picked e f q refl c v
  each-kept least_over_several e f q c v = by-asked least_over_several e f q refl c v
  each-kept set_over_several e f q c v = by-asked set_over_several e f q refl c v
  each-kept different_by_counts e f q c v = by-asked different_by_counts e f q refl c v
  each-kept in_order_of_its_source e f q c v = by-asked in_order_of_its_source e f q refl c v
  each-kept fold_of_folds e f q c v = by-asked fold_of_folds e f q refl c v
  each-kept set_of_a_term e f q c v = by-asked set_of_a_term e f q refl c v

-- What is proved of rules of openings.
pub opens-are-counted-on : ItemsOnceOffer → OpensAreCountedOn
opens-are-counted-on once = record {
  asked = λ s g r e f q p env t c w v m. each-asked once s g env t w r e f q p c v m;
  kept = λ s g r e f q env t c w v. each-kept once s g env t w r e f q c v;
}
