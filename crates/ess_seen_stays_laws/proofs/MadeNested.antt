-- A fold behind plain generators becomes a fold of folds: of a tree over views it is one with the same mark.
use Rattle.std.proofs.Common.{ℕ, Bool, true, false, if◌then◌else◌, List, Option, Some, None}
use Rattle.ess_semantics.specs.declared.words.Fun.{Fun}
use Rattle.ess_semantics.specs.Lists.{and_then}
use Rattle.ess_semantics.specs.Values.{Text}
use Rattle.ess_semantics.specs.Names.{Names}
use Rattle.ess_semantics.specs.Trees.{Ex, comp_ex, fun1, Gens}
use Rattle.ess_rules_laws.specs.SourceRules.{is_marked}
use Rattle.ess_refine_laws.specs.ExtremeRules.{are_none}
use Rattle.ess_open_rules_laws.specs.OpenGenerators.{Opened, at_first_open, folds_nested, nested}
use Rattle.ess_seen_laws.specs.ess_bare_laws.Lean.{FoldWord}
use Rattle.ess_seen_laws.specs.Seen.{Bound, so_many, Seen, number, counted, chosen, folded, Going, among}
use Rattle.ess_seen_laws.specs.Apart.{Apart}
use Rattle.ess_seen_stays_laws.proofs.Opened.{SetFirst, set_first, ApartBehind, IsOpened, opened-at}
use Rattle.ess_seen_stays_laws.proofs.MadePlainly.{Made}

module _ (cells : Text → Option (Bool × List ℕ)) (r : Names Bound) where
  -- What is made is one, and so is what isn't made under a condition.
  pub when-made : (m b : Bool) (o : Option Ex) → Made cells r m o → Made cells r m (if b then o else None)
  when-made m true o h = h
  when-made m false o h = tt

  unless-made : {m : Bool} (b : Bool) (f : Ex) → Seen cells r f m → Made cells r m (if b then None else Some f)
  unless-made true f h = tt
  unless-made false f h = h

  -- Names apart at a fold are so at its list.
  pub apart-list : {x : Text} {b : Bool} {w : Fun} {e : Ex} {gs : Gens} (n : Apart x r (fun1 b w (comp_ex e gs))) →
      ApartBehind cells n.declared x e r gs
  apart-list n = record {
    scope = n.scope;
    ranging = n.ranging;
    scoped = n.scoped.0;
    covers = n.covers;
    new = n.new;
    unbound = n.unbound.0.1;
  }

  -- ---- a fold of folds

  first-goes : {u t : Names Bound} {gs : Gens} → SetFirst cells u gs t → Going cells u gs t
  first-goes (set_first h g) = among h g

  nests : (z : Text → Bool) (x : Text) {t : Names Bound} {m : Bool} {w : Fun} (e : Ex) → FoldWord m w → Seen cells t e m →
      (o : Option Opened) → IsOpened cells z x e r t o → Made cells r m (and_then o (folds_nested m w e))
  nests z x e v f None h = tt
  nests z x e v f (Some p) h = unless-made (are_none p.before) _ (folded v h.before (folded v (first-goes h.first) f))

  chosen-nests : {x : Ex} {m : Bool} → Seen cells r x m → Made cells r false (nested (fun1 false Fun.ToInt x))
  chosen-nests number = tt
  chosen-nests (counted so_many) = tt
  chosen-nests f = tt

  -- What goes before the first source stands in a fold of its own.
  pub fold-of-folds : (x : Text) {e : Ex} {m : Bool} → Seen cells r e m → Apart x r e → Made cells r m (nested e)
  fold-of-folds x (chosen f) n = chosen-nests f
  fold-of-folds x (counted so_many) n = tt
  fold-of-folds x (folded {m = m} {f = w} {e = e} {gs = gs} v k f) n =
      when-made m (is_marked m w) _ (nests n.declared x e v f (at_first_open gs) (opened-at cells n.declared x e k (apart-list n)))
  fold-of-folds x f n = tt
