-- No rule that reads the kind of a view fires at a bare tree, or at a list of bare items.
use Rattle.std.proofs.Common.{◌≡◌, refl, ℕ, Bool, false, Option, Some, None}
use Rattle.ess_semantics.specs.declared.words.Op1.{Op1}
use Rattle.ess_semantics.specs.declared.words.Fun.{Fun}
use Rattle.ess_semantics.specs.Values.{Text}
use Rattle.ess_semantics.specs.Names.{Names}
use Rattle.ess_semantics.specs.Trees.{Ex, comp_ex, ex1, fun1, Gens}
use Rattle.ess_semantics.specs.Types.{Ty}
use Rattle.ess_refine_laws.specs.AllRules.{Supply}
use Rattle.ess_kind_rules_laws.specs.KindRules.{KindRule, kind_rewrite, cell_of_an_atom, of_what_is_picked}
use Rattle.ess_flat_laws.specs.Flat.{denied, negative, absolute, both, either, implied, agreeing, equal, unequal, below, at_most, above, at_least, sum, difference, product}
use Rattle.ess_bare_laws.specs.Bare.{before, not_behind, all_hold, some_holds, Bare, number, truth, named, cell, one, two, power, chosen, folded, added, ordered, row, Ranging, at_end, through, where_holds, no_axis, along, truths, numbers}
use Rattle.ess_bare_laws.proofs.Picks.{bare-kind}

-- No answer.
abbrev pub IsNone : Option Ex → Type 0
IsNone None = Unit {0}
IsNone (Some f) = ⊥

pub empty : (o : Option Ex) → IsNone o → o ≡ None
empty None h = refl
empty (Some f) h = absurd h

-- No answer but of what operands pick, which is looked at by itself.
abbrev NoneBut : KindRule → Option Ex → Type 0
NoneBut of_what_is_picked o = Unit {0}
NoneBut u o = IsNone o

module _ (cells : Text → Option (Bool × ℕ)) (s : Supply) (g : Names Ty) (r : Names Bool) where
  abbrev F : Ex → Bool → Type 0
  F = Bare cells r

  abbrev A : Ex → KindRule → Type 0
  A e u = NoneBut u (kind_rewrite s g u e)

  -- At an absolute value.
  at-absolute : {x : Ex} {k : Bool} → F x k → (u : KindRule) → A (ex1 false Op1.Bar x) u
  at-absolute number cell_of_an_atom = tt
  at-absolute truth cell_of_an_atom = tt
  at-absolute (named h) cell_of_an_atom = tt
  at-absolute (cell h i) cell_of_an_atom = tt
  at-absolute (one denied f) cell_of_an_atom = tt
  at-absolute (one negative f) cell_of_an_atom = tt
  at-absolute (one absolute f) cell_of_an_atom = tt
  at-absolute (two both f h) cell_of_an_atom = tt
  at-absolute (two either f h) cell_of_an_atom = tt
  at-absolute (two implied f h) cell_of_an_atom = tt
  at-absolute (two agreeing f h) cell_of_an_atom = tt
  at-absolute (two equal f h) cell_of_an_atom = tt
  at-absolute (two unequal f h) cell_of_an_atom = tt
  at-absolute (two below f h) cell_of_an_atom = tt
  at-absolute (two at_most f h) cell_of_an_atom = tt
  at-absolute (two above f h) cell_of_an_atom = tt
  at-absolute (two at_least f h) cell_of_an_atom = tt
  at-absolute (two sum f h) cell_of_an_atom = tt
  at-absolute (two difference f h) cell_of_an_atom = tt
  at-absolute (two product f h) cell_of_an_atom = tt
  at-absolute (power f h) cell_of_an_atom = tt
  at-absolute (chosen f) cell_of_an_atom = tt
  at-absolute (folded all_hold k f) cell_of_an_atom = tt
  at-absolute (folded some_holds k f) cell_of_an_atom = tt
  at-absolute (added k f) cell_of_an_atom = tt
  at-absolute (ordered before f h) cell_of_an_atom = tt
  at-absolute (ordered not_behind f h) cell_of_an_atom = tt
  at-absolute f u = tt

  -- At `toInt`.
  at-chosen : {x : Ex} {k : Bool} → F x k → (u : KindRule) → A (fun1 false Fun.ToInt x) u
  at-chosen number cell_of_an_atom = tt
  at-chosen truth cell_of_an_atom = tt
  at-chosen (named h) cell_of_an_atom = tt
  at-chosen (cell h i) cell_of_an_atom = tt
  at-chosen (one denied f) cell_of_an_atom = tt
  at-chosen (one negative f) cell_of_an_atom = tt
  at-chosen (one absolute f) cell_of_an_atom = tt
  at-chosen (two both f h) cell_of_an_atom = tt
  at-chosen (two either f h) cell_of_an_atom = tt
  at-chosen (two implied f h) cell_of_an_atom = tt
  at-chosen (two agreeing f h) cell_of_an_atom = tt
  at-chosen (two equal f h) cell_of_an_atom = tt
  at-chosen (two unequal f h) cell_of_an_atom = tt
  at-chosen (two below f h) cell_of_an_atom = tt
  at-chosen (two at_most f h) cell_of_an_atom = tt
  at-chosen (two above f h) cell_of_an_atom = tt
  at-chosen (two at_least f h) cell_of_an_atom = tt
  at-chosen (two sum f h) cell_of_an_atom = tt
  at-chosen (two difference f h) cell_of_an_atom = tt
  at-chosen (two product f h) cell_of_an_atom = tt
  at-chosen (power f h) cell_of_an_atom = tt
  at-chosen (chosen f) cell_of_an_atom = tt
  at-chosen (folded all_hold k f) cell_of_an_atom = tt
  at-chosen (folded some_holds k f) cell_of_an_atom = tt
  at-chosen (added k f) cell_of_an_atom = tt
  at-chosen (ordered before f h) cell_of_an_atom = tt
  at-chosen (ordered not_behind f h) cell_of_an_atom = tt
  at-chosen f u = tt

  at-root : {e : Ex} {m : Bool} → F e m → (u : KindRule) → A e u
  at-root number cell_of_an_atom = tt
  at-root truth cell_of_an_atom = tt
  at-root (named h) cell_of_an_atom = tt
  at-root (cell h i) cell_of_an_atom = tt
  at-root (one denied f) cell_of_an_atom = tt
  at-root (one negative f) cell_of_an_atom = tt
  at-root (one absolute f) u = at-absolute f u
  at-root (two both f h) cell_of_an_atom = tt
  at-root (two either f h) cell_of_an_atom = tt
  at-root (two implied f h) cell_of_an_atom = tt
  at-root (two agreeing f h) cell_of_an_atom = tt
  at-root (two equal f h) cell_of_an_atom = tt
  at-root (two unequal f h) cell_of_an_atom = tt
  at-root (two below f h) cell_of_an_atom = tt
  at-root (two at_most f h) cell_of_an_atom = tt
  at-root (two above f h) cell_of_an_atom = tt
  at-root (two at_least f h) cell_of_an_atom = tt
  at-root (two sum f h) cell_of_an_atom = tt
  at-root (two difference f h) cell_of_an_atom = tt
  at-root (two product f h) cell_of_an_atom = tt
  at-root (power f h) cell_of_an_atom = tt
  at-root (chosen f) u = at-chosen f u
  at-root (folded all_hold at_end f) cell_of_an_atom = tt
  at-root (folded all_hold (through n k) f) cell_of_an_atom = tt
  at-root (folded all_hold (where_holds c k) f) cell_of_an_atom = tt
  at-root (folded some_holds at_end f) cell_of_an_atom = tt
  at-root (folded some_holds (through n k) f) cell_of_an_atom = tt
  at-root (folded some_holds (where_holds c k) f) cell_of_an_atom = tt
  at-root (added no_axis f) cell_of_an_atom = tt
  at-root (added (along n k) f) cell_of_an_atom = tt
  at-root (ordered before (row a f) (row b h)) cell_of_an_atom = tt
  at-root (ordered not_behind (row a f) (row b h)) cell_of_an_atom = tt
  at-root f u = tt

  -- None fires at a bare tree.
  pub no-kind-rule : {e : Ex} {m : Bool} → F e m → (u : KindRule) → kind_rewrite s g u e ≡ None
  no-kind-rule f of_what_is_picked = bare-kind cells s g f
  no-kind-rule f u = empty _ (at-root f u)

  -- None fires at a list.
  pub no-kind-list : {t : Names Bool} {gs : Gens} (e : Ex) → Ranging cells r gs t → (u : KindRule) →
      kind_rewrite s g u (comp_ex e gs) ≡ None
  no-kind-list e at_end cell_of_an_atom = refl
  no-kind-list e (through truths k) cell_of_an_atom = refl
  no-kind-list e (through (numbers b es) k) cell_of_an_atom = refl
  no-kind-list e (where_holds f k) cell_of_an_atom = refl
  no-kind-list e k u = refl
