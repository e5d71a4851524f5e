-- Of the rules that read the kind of a view only those that are told fire at the root of a tree over views.
use Rattle.std.proofs.Common.{ℕ, Bool, true, false, List, Option}
use Rattle.ess_semantics.specs.declared.words.Op1.{Op1}
use Rattle.ess_semantics.specs.declared.words.Op2.{Op2}
use Rattle.ess_semantics.specs.declared.words.Fun.{Fun}
use Rattle.ess_semantics.specs.Values.{Text}
use Rattle.ess_semantics.specs.Names.{Names}
use Rattle.ess_semantics.specs.Trees.{Ex, ex1, ex2, fun1}
use Rattle.ess_semantics.specs.Types.{Ty}
use Rattle.ess_refine_laws.specs.AllRules.{Supply}
use Rattle.ess_kind_rules_laws.specs.KindRules.{KindRule, kind_rewrite, cell_of_an_atom, of_what_is_picked}
use Rattle.ess_flat_laws.specs.Flat.{denied, negative, absolute, both, either, implied, agreeing, equal, unequal, below, at_most, above, at_least, sum, difference, product}
use Rattle.ess_seen_laws.specs.ess_bare_laws.Lean.{of_all, of_some, of_sum}
use Rattle.ess_seen_laws.specs.Seen.{Kind, Bound, alike, apart, included, properly_included, including, properly_including, so_many, from_to, from_0, subsets, none_below, as_an_atom, by_occurrence, with_a_dummy, in_slots, with_a_marker, with_flags, SetTerm, view, drawn, combined, Seen, number, truth, named, counted, figure, flag, atom, one, two, chosen, folded, of_items, size, within, set_within, compared}
use Rattle.ess_seen_laws.specs.MayFire.{may_fire_at_views}
use Rattle.ess_seen_rules_laws.proofs.Allowed.{Allowed, allowed-none}
use Rattle.ess_seen_rules_laws.proofs.Picks.{operands-pick, picks-no-kind}

-- An answer that may be, but of what operands pick, which is looked at by itself.
abbrev Told : KindRule → Option Ex → Type 0
Told of_what_is_picked o = Unit {0}
Told u o = Allowed (may_fire_at_views u) o

module _ (cells : Text → Option (Bool × List ℕ)) (s : Supply) (g : Names Ty) (r : Names Bound) where
  abbrev F : Ex → Bool → Type 0
  F = Seen cells r

  abbrev A : Ex → KindRule → Type 0
  A e u = Told u (kind_rewrite s g u e)

  -- At an absolute value.
  at-absolute : {x : Ex} {m : Bool} → F x m → (u : KindRule) → A (ex1 false Op1.Bar x) u
  at-absolute number cell_of_an_atom = tt
  at-absolute truth cell_of_an_atom = tt
  at-absolute (named h k) cell_of_an_atom = tt
  at-absolute (figure h i) cell_of_an_atom = tt
  at-absolute (flag h i) cell_of_an_atom = tt
  at-absolute (atom h p) cell_of_an_atom = tt
  at-absolute (one denied f) cell_of_an_atom = tt
  at-absolute (one negative f) cell_of_an_atom = tt
  at-absolute (one absolute f) cell_of_an_atom = tt
  at-absolute (two both f h) cell_of_an_atom = tt
  at-absolute (two either f h) cell_of_an_atom = tt
  at-absolute (two implied f h) cell_of_an_atom = tt
  at-absolute (two agreeing f h) cell_of_an_atom = tt
  at-absolute (two equal f h) cell_of_an_atom = tt
  at-absolute (two unequal f h) cell_of_an_atom = tt
  at-absolute (two below f h) cell_of_an_atom = tt
  at-absolute (two at_most f h) cell_of_an_atom = tt
  at-absolute (two above f h) cell_of_an_atom = tt
  at-absolute (two at_least f h) cell_of_an_atom = tt
  at-absolute (two sum f h) cell_of_an_atom = tt
  at-absolute (two difference f h) cell_of_an_atom = tt
  at-absolute (two product f h) cell_of_an_atom = tt
  at-absolute (chosen f) cell_of_an_atom = tt
  at-absolute (folded of_all k f) cell_of_an_atom = tt
  at-absolute (folded of_some k f) cell_of_an_atom = tt
  at-absolute (folded of_sum k f) cell_of_an_atom = tt
  at-absolute (counted so_many) cell_of_an_atom = tt
  at-absolute (counted (from_to q)) cell_of_an_atom = tt
  at-absolute (counted from_0) cell_of_an_atom = tt
  at-absolute (counted (subsets t)) cell_of_an_atom = tt
  at-absolute (counted (none_below t)) cell_of_an_atom = tt
  at-absolute (of_items of_all l) cell_of_an_atom = tt
  at-absolute (of_items of_some l) cell_of_an_atom = tt
  at-absolute (of_items of_sum l) cell_of_an_atom = tt
  at-absolute (size h) cell_of_an_atom = tt
  at-absolute (within f h) cell_of_an_atom = tt
  at-absolute (set_within h k) cell_of_an_atom = tt
  at-absolute (compared o h k) cell_of_an_atom = tt
  at-absolute f u = tt

  -- At `toInt`.
  at-chosen : {x : Ex} {m : Bool} → F x m → (u : KindRule) → A (fun1 false Fun.ToInt x) u
  at-chosen number cell_of_an_atom = tt
  at-chosen truth cell_of_an_atom = tt
  at-chosen (named h k) cell_of_an_atom = tt
  at-chosen (figure h i) cell_of_an_atom = tt
  at-chosen (flag h i) cell_of_an_atom = tt
  at-chosen (atom h p) cell_of_an_atom = tt
  at-chosen (one denied f) cell_of_an_atom = tt
  at-chosen (one negative f) cell_of_an_atom = tt
  at-chosen (one absolute f) cell_of_an_atom = tt
  at-chosen (two both f h) cell_of_an_atom = tt
  at-chosen (two either f h) cell_of_an_atom = tt
  at-chosen (two implied f h) cell_of_an_atom = tt
  at-chosen (two agreeing f h) cell_of_an_atom = tt
  at-chosen (two equal f h) cell_of_an_atom = tt
  at-chosen (two unequal f h) cell_of_an_atom = tt
  at-chosen (two below f h) cell_of_an_atom = tt
  at-chosen (two at_most f h) cell_of_an_atom = tt
  at-chosen (two above f h) cell_of_an_atom = tt
  at-chosen (two at_least f h) cell_of_an_atom = tt
  at-chosen (two sum f h) cell_of_an_atom = tt
  at-chosen (two difference f h) cell_of_an_atom = tt
  at-chosen (two product f h) cell_of_an_atom = tt
  at-chosen (chosen f) cell_of_an_atom = tt
  at-chosen (folded of_all k f) cell_of_an_atom = tt
  at-chosen (folded of_some k f) cell_of_an_atom = tt
  at-chosen (folded of_sum k f) cell_of_an_atom = tt
  at-chosen (counted so_many) cell_of_an_atom = tt
  at-chosen (counted (from_to q)) cell_of_an_atom = tt
  at-chosen (counted from_0) cell_of_an_atom = tt
  at-chosen (counted (subsets t)) cell_of_an_atom = tt
  at-chosen (counted (none_below t)) cell_of_an_atom = tt
  at-chosen (of_items of_all l) cell_of_an_atom = tt
  at-chosen (of_items of_some l) cell_of_an_atom = tt
  at-chosen (of_items of_sum l) cell_of_an_atom = tt
  at-chosen (size h) cell_of_an_atom = tt
  at-chosen (within f h) cell_of_an_atom = tt
  at-chosen (set_within h k) cell_of_an_atom = tt
  at-chosen (compared o h k) cell_of_an_atom = tt
  at-chosen f u = tt

  -- At a size of a set, and at a membership.
  at-size : {e : Ex} {k : Kind} → SetTerm cells r e k → (u : KindRule) → A (ex1 false Op1.Bar e) u
  at-size (view a b (as_an_atom h c) d) cell_of_an_atom = tt
  at-size (view a b (by_occurrence n w h c) d) cell_of_an_atom = tt
  at-size (view a b (with_a_dummy w h q l c) d) cell_of_an_atom = tt
  at-size (view a b (in_slots w l k) d) cell_of_an_atom = tt
  at-size (view a b (with_a_marker w l c k) d) cell_of_an_atom = tt
  at-size (view a b (with_flags w l c k) d) cell_of_an_atom = tt
  at-size (drawn h) cell_of_an_atom = tt
  at-size (combined o h k) cell_of_an_atom = tt
  at-size h u = tt

  at-within : {e : Ex} {k : Kind} (x : Ex) → SetTerm cells r e k → (u : KindRule) → A (ex2 true Op2.Member x e) u
  at-within x (view a b (as_an_atom h c) d) cell_of_an_atom = tt
  at-within x (view a b (by_occurrence n w h c) d) cell_of_an_atom = tt
  at-within x (view a b (with_a_dummy w h q l c) d) cell_of_an_atom = tt
  at-within x (view a b (in_slots w l k) d) cell_of_an_atom = tt
  at-within x (view a b (with_a_marker w l c k) d) cell_of_an_atom = tt
  at-within x (view a b (with_flags w l c k) d) cell_of_an_atom = tt
  at-within x (drawn h) cell_of_an_atom = tt
  at-within x (combined o h k) cell_of_an_atom = tt
  at-within x h u = tt

  at-root : {e : Ex} {m : Bool} → F e m → (u : KindRule) → A e u
  at-root number cell_of_an_atom = tt
  at-root truth cell_of_an_atom = tt
  at-root (named h k) cell_of_an_atom = tt
  at-root (figure h i) cell_of_an_atom = tt
  at-root (flag h i) cell_of_an_atom = tt
  at-root (atom h p) cell_of_an_atom = tt
  at-root (one denied f) cell_of_an_atom = tt
  at-root (one negative f) cell_of_an_atom = tt
  at-root (one absolute f) u = at-absolute f u
  at-root (two both f h) cell_of_an_atom = tt
  at-root (two either f h) cell_of_an_atom = tt
  at-root (two implied f h) cell_of_an_atom = tt
  at-root (two agreeing f h) cell_of_an_atom = tt
  at-root (two equal f h) cell_of_an_atom = tt
  at-root (two unequal f h) cell_of_an_atom = tt
  at-root (two below f h) cell_of_an_atom = tt
  at-root (two at_most f h) cell_of_an_atom = tt
  at-root (two above f h) cell_of_an_atom = tt
  at-root (two at_least f h) cell_of_an_atom = tt
  at-root (two sum f h) cell_of_an_atom = tt
  at-root (two difference f h) cell_of_an_atom = tt
  at-root (two product f h) cell_of_an_atom = tt
  at-root (chosen f) u = at-chosen f u
  at-root (folded of_all k f) cell_of_an_atom = tt
  at-root (folded of_some k f) cell_of_an_atom = tt
  at-root (folded of_sum k f) cell_of_an_atom = tt
  at-root (counted so_many) cell_of_an_atom = tt
  at-root (counted (from_to q)) cell_of_an_atom = tt
  at-root (counted from_0) cell_of_an_atom = tt
  at-root (counted (subsets t)) cell_of_an_atom = tt
  at-root (counted (none_below t)) cell_of_an_atom = tt
  at-root (of_items of_all l) cell_of_an_atom = tt
  at-root (of_items of_some l) cell_of_an_atom = tt
  at-root (of_items of_sum l) cell_of_an_atom = tt
  at-root (size h) u = at-size h u
  at-root (within {a = a} f h) u = at-within a h u
  at-root (set_within {a = a} h k) u = at-within a k u
  at-root (compared alike h k) cell_of_an_atom = tt
  at-root (compared apart h k) cell_of_an_atom = tt
  at-root (compared included h k) cell_of_an_atom = tt
  at-root (compared properly_included h k) cell_of_an_atom = tt
  at-root (compared including h k) cell_of_an_atom = tt
  at-root (compared properly_including h k) cell_of_an_atom = tt
  at-root f u = tt

  -- What each answers.
  pub kind-allowed : {e : Ex} {m : Bool} → F e m → (u : KindRule) → Allowed (may_fire_at_views u) (kind_rewrite s g u e)
  kind-allowed {e} f of_what_is_picked = allowed-none false _ (picks-no-kind s g e (operands-pick cells r f))
  kind-allowed f u = at-root f u
