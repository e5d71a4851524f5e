-- Names of a comprehension over views that are told apart: at the whole, and behind its first generators.
use Rattle.std.proofs.Common.{Bool, true, not}
use Rattle.ess_semantics.specs.declared.words.Fun.{Fun}
use Rattle.ess_semantics.specs.Values.{Text}
use Rattle.ess_semantics.specs.Order.{same_text}
use Rattle.ess_semantics.specs.Names.{Names}
use Rattle.ess_semantics.specs.Trees.{Ex, comp_ex, fun1, Gens, no_gens, over, from, cond}
use Rattle.ess_semantics.specs.Substitution.{NamesAre, NamesAreGens}
use Rattle.ess_semantics.specs.Scoped.{Scoped, ScopedGens}
use Rattle.ess_rules_laws.specs.SpliceRules.{append_gens}
use Rattle.ess_refine_laws.specs.ScopesStay.{Scope, scope_behind}
use Rattle.ess_seen_laws.specs.Seen.{Bound}
use Rattle.ess_seen_laws.specs.Apart.{Apart}
use Rattle.ess_seen_values_laws.proofs.Tails.{scoped-behind}
use Rattle.ess_seen_values_laws.proofs.Names.{Covers}

-- Names of a comprehension are told apart, where the names r are bound around it.
pub record ListApart (x : Text) (r : Names Bound) (e : Ex) (gs : Gens) : Type 0 where
  pub declared : Text → Bool
  pub scope : Scope
  pub scoped : ScopedGens declared scope.all scope.over_domains gs (λ p q. Scoped declared p q e)
  pub covers : Covers r scope.all
  pub body_used : NamesAre (λ a. not (same_text x a)) (λ a. true) e
  pub body_bound : NamesAre (λ a. true) (λ a. not (same_text x a)) e
  pub gens_used : NamesAreGens (λ a. not (same_text x a)) (λ a. true) gs
  pub gens_bound : NamesAreGens (λ a. true) (λ a. not (same_text x a)) gs

-- The names of a word of a comprehension are those of the comprehension.
pub word-apart : (x : Text) (r : Names Bound) (m : Bool) (f : Fun) (e : Ex) (gs : Gens) → Apart x r (fun1 m f (comp_ex e gs)) →
    ListApart x r e gs
word-apart x r m f e gs a =
    let s = a.scoped in
    let n = a.unused in
    let b = a.unbound in
    record {
      declared = a.declared;
      scope = record { all = a.scope; over_domains = a.ranging };
      scoped = s.0;
      covers = a.covers;
      body_used = n.0.0;
      body_bound = b.0.0;
      gens_used = n.0.1;
      gens_bound = b.0.1;
    }

used-behind : (u b : Text → Bool) (gs hs : Gens) → NamesAreGens u b (append_gens gs hs) → NamesAreGens u b hs
used-behind u b no_gens hs h = h
used-behind u b (over p d gs) hs h = used-behind u b gs hs h.2
used-behind u b (from p e gs) hs h = used-behind u b gs hs h.2
used-behind u b (cond c gs) hs h = used-behind u b gs hs h.1

-- So they are behind the first generators.
pub list-behind : (x : Text) (r t : Names Bound) (e : Ex) (gs hs : Gens) (l : ListApart x r e (append_gens gs hs)) →
    Covers t (scope_behind gs l.scope).all → ListApart x t e hs
list-behind x r t e gs hs l c = record {
  declared = l.declared;
  scope = scope_behind gs l.scope;
  scoped = scoped-behind l.declared gs hs l.scope (λ p q. Scoped l.declared p q e) l.scoped;
  covers = c;
  body_used = l.body_used;
  body_bound = l.body_bound;
  gens_used = used-behind (λ a. not (same_text x a)) (λ a. true) gs hs l.gens_used;
  gens_bound = used-behind (λ a. true) (λ a. not (same_text x a)) gs hs l.gens_bound;
}
