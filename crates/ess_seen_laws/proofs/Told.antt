-- Sets are told apart as they are: a view binds no name, and its indices are names.
use Rattle.std.proofs.Common.{◌≡◌, refl, ap, ◌∙◌, ℕ, Bool, false, List, [], Option}
use Rattle.ess_semantics.specs.Values.{Text}
use Rattle.ess_semantics.specs.Names.{Names}
use Rattle.ess_semantics.specs.declared.words.Op2.{Op2}
use Rattle.ess_semantics.specs.Trees.{Repr, Ex, Exs, name_ex, seen_ex, more_exs, Dom, set_dom, ex2}
use Rattle.conjure_model_laws.specs.ToldApart.{told, told_all}
use Rattle.ess_seen_laws.specs.Seen.{Kind, Bound, Places, no_place, at_slot, SetTerm, view, drawn, combined}

abbrev with-first : Ex → Exs × ℕ → Exs × ℕ
with-first e p = (more_exs e p.0, p.1)

abbrev as-view : Repr → Dom → List Text → Exs × ℕ → Ex × ℕ
as-view p d ns w = (seen_ex p d ns w.0, w.1)

-- One more that is told as it is.
one-more : (e : Ex) (q : Exs × ℕ) (es : Exs) (j : ℕ) → q ≡ (es, j) →
    ◌≡◌ {A = Exs × ℕ} (more_exs e q.0, q.1) (more_exs e es, j)
one-more e q es j h = ap (with-first e) h

viewed : (p : Repr) (d : Dom) (ns : List Text) (q : Exs × ℕ) (es : Exs) (j : ℕ) → q ≡ (es, j) →
    ◌≡◌ {A = Ex × ℕ} (seen_ex p d ns q.0, q.1) (seen_ex p d ns es, j)
viewed p d ns q es j h = ap (as-view p d ns) h

-- Two operands that are told as they are.
two-told : (o : Op2) (s t : Ex) (j : ℕ) → told s [] j ≡ (s, j) → told t [] j ≡ (t, j) → told (ex2 false o s t) [] j ≡ (ex2 false o s t, j)
two-told o s t j p q = ap (behind o t) p ∙ ap (in-front o s) q
  where
    behind : Op2 → Ex → Ex × ℕ → Ex × ℕ
    behind o t u = let v : Ex × ℕ = told t [] u.1 in (ex2 false o u.0 v.0, v.1)

    in-front : Op2 → Ex → Ex × ℕ → Ex × ℕ
    in-front o s v = (ex2 false o s v.0, v.1)

module _ (cells : Text → Option (Bool × List ℕ)) where
  -- Places are told as they are.
  pub places-told : {r : Names Bound} {es : Exs} {ks : List ℕ} → Places cells r es ks → (j : ℕ) → told_all es [] j ≡ (es, j)
  places-told no_place j = refl
  places-told (at_slot {a = a} {es = es} q p) j = one-more (name_ex a) (told_all es [] j) es j (places-told p j)

  -- So are sets.
  pub set-told : {r : Names Bound} {e : Ex} {k : Kind} → SetTerm cells r e k → (j : ℕ) → told e [] j ≡ (e, j)
  set-told (view {p = p} {ms = ms} {es = es} {js = js} {d = d} {ns = ns} n f k q) j =
      viewed p (set_dom ms es d) ns (told_all js [] j) js j (places-told q j)
  set-told (drawn q) j = refl
  set-told (combined {o = o} {s = s} {t = t} c u v) j = two-told o s t j (set-told u j) (set-told v j)
