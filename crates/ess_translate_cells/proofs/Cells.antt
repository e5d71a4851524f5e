-- Two lists of runs compared one by one, and what their equality says of cells.
use Rattle.std.proofs.Common.{◌≡◌, ◌≢◌, refl, sym, ap, ◌∙◌, ℕ, suc, ◌+◌, ◌<◌, ◌≤◌, ℤ, Bool, true, false, ◌&&◌, List, [], ◌∷◌, map, length, get_or, drop, Option, Some, None, arith}
use Rattle.std.proofs.lemmas.List.{at_drop_more, drop_all}
use Rattle.ess_semantics.specs.Domains.{Span, Domain}
use Rattle.ess_semantics.specs.Tables.{is_cell}
use Rattle.ess_semantics.specs.Satisfaction.{AreRuns}
use Rattle.ess_semantics.proofs.Tests.{and-left, and-right, and-both}
use Rattle.ess_semantics.proofs.Orders.{same_int-itself, same_int-equal}
use Rattle.eprime_eval_scalars.specs.declared.running.Run.{Run}
use Rattle.eprime_eval_scalars.specs.Runs.{pure_run}
use Rattle.ess_translate_members_laws.proofs.RunsOnce.{runs_are_one, cells_are_same}
use Rattle.ess_translate_cells.specs.SameRuns.{same_end, same_span, same_spans}
use Rattle.ess_translate_cells.specs.ClosedTables.{Decides}

-- ---- equal lists

end-equal : (a b : Option ℤ) → same_end a b ≡ true → a ≡ b
end-equal None None e = refl
end-equal None (Some b) e = cc
end-equal (Some a) None e = cc
end-equal (Some a) (Some b) e = ap (λ n. Some n) (same_int-equal a b e)

end-itself : (a : Option ℤ) → same_end a a ≡ true
end-itself None = refl
end-itself (Some a) = same_int-itself a

span-equal : (r s : Span) → same_span r s ≡ true → r ≡ s
span-equal r s e =
    ap (λ o. record { low = o; high = r.high }) (end-equal r.low s.low (and-left (same_end r.low s.low) (same_end r.high s.high) e))
    ∙ ap (λ o. record { low = s.low; high = o }) (end-equal r.high s.high (and-right (same_end r.low s.low) (same_end r.high s.high) e))

spans-equal : (rs ss : List Span) → same_spans rs ss ≡ true → rs ≡ ss
spans-equal [] [] e = refl
spans-equal [] (s ∷ ss) e = cc
spans-equal (r ∷ rs) [] e = cc
spans-equal (r ∷ rs) (s ∷ ss) e =
    ap (λ x. x ∷ rs) (span-equal r s (and-left (same_span r s) (same_spans rs ss) e))
    ∙ ap (λ l. s ∷ l) (spans-equal rs ss (and-right (same_span r s) (same_spans rs ss) e))

spans-themselves : (rs : List Span) → same_spans rs rs ≡ true
spans-themselves [] = refl
spans-themselves (r ∷ rs) =
    and-both (same_span r r) (same_spans rs rs) (and-both (same_end r.low r.low) (same_end r.high r.high) (end-itself r.low)
    (end-itself r.high))
    (spans-themselves rs)

-- ---- what runs say of cells

pub cells_decided : (rs ss : List Run) (d e : Domain) (b : Bool) → AreRuns (map pure_run rs) d → AreRuns (map pure_run ss) e →
    b ≡ same_spans (map pure_run rs) (map pure_run ss) → Decides b ((n : ℤ) → is_cell d n ≡ is_cell e n)
cells_decided rs ss d e b h k q = record { yes = same; no = other }
  where
    same : b ≡ true → (n : ℤ) → is_cell d n ≡ is_cell e n
    same t n =
        let z : map pure_run ss ≡ map pure_run rs = sym (spans-equal (map pure_run rs) (map pure_run ss) (sym q ∙ t)) in
        cells_are_same (map pure_run rs) d e h (rw z at k) n

    other : b ≡ false → ((n : ℤ) → is_cell d n ≡ is_cell e n) → ⊥
    other f g =
        let z : map pure_run rs ≡ map pure_run ss = runs_are_one (map pure_run rs) (map pure_run ss) d e h k g in
        let c : true ≡ false = sym (spans-themselves (map pure_run rs)) ∙ ap (same_spans (map pure_run rs)) z ∙ sym q ∙ f in cc

-- ---- one by one

abbrev same_all : List Run → List Run → Bool
same_all rs ss = same_spans (map pure_run rs) (map pure_run ss)

pub runs_uneven : (rs ss : List Run) → length rs ≢ length ss → false ≡ same_spans (map pure_run rs) (map pure_run ss)
runs_uneven [] [] h = absurd (h refl)
runs_uneven [] (s ∷ ss) h = refl
runs_uneven (r ∷ rs) [] h = refl
runs_uneven (r ∷ rs) (s ∷ ss) h = uneven (same_span (pure_run r) (pure_run s)) (runs_uneven rs ss (λ e. h (ap suc e)))
  where
    uneven : (b : Bool) {c : Bool} → false ≡ c → false ≡ b && c
    uneven true e = e
    uneven false e = refl

-- What is left to compare behind i runs.
abbrev pub SameBehind : List Run → List Run → ℕ → Type 0
SameBehind rs ss i = same_spans (map pure_run rs) (map pure_run ss) ≡ same_spans (map pure_run (drop i rs)) (map pure_run (drop i ss))

next-same : (rs ss : List Run) (i : ℕ) (r s : Run) → i < length rs → r ≡ get_or rs i r → i < length ss → s ≡ get_or ss i s →
    same_spans (map pure_run (drop i rs)) (map pure_run (drop i ss))
    ≡ same_span (pure_run r) (pure_run s) && same_spans (map pure_run (drop (i + 1) rs)) (map pure_run (drop (i + 1) ss))
next-same rs ss i r s l g m h =
    at_drop_more (λ us. same_all us (drop i ss)) rs i r l
    ∙ ap (λ u. same_all (u ∷ drop (i + 1) rs) (drop i ss)) (sym g)
    ∙ at_drop_more (λ us. same_all (r ∷ drop (i + 1) rs) us) ss i s m
    ∙ ap (λ u. same_all (r ∷ drop (i + 1) rs) (u ∷ drop (i + 1) ss)) (sym h)

pub runs_not : (rs ss : List Run) (i : ℕ) (r s : Run) → SameBehind rs ss i → i < length rs → r ≡ get_or rs i r → i < length ss →
    s ≡ get_or ss i s →
    same_span (pure_run r) (pure_run s) ≡ false → false ≡ same_spans (map pure_run rs) (map pure_run ss)
runs_not rs ss i r s k l g m h e =
    sym (k ∙ next-same rs ss i r s l g m h ∙ ap (λ b. b && same_spans (map pure_run (drop (i + 1) rs)) (map pure_run (drop (i + 1) ss))) e)

pub runs_more : (rs ss : List Run) (i : ℕ) (r s : Run) → SameBehind rs ss i → i < length rs → r ≡ get_or rs i r → i < length ss →
    s ≡ get_or ss i s →
    same_span (pure_run r) (pure_run s) ≡ true → SameBehind rs ss (i + 1)
runs_more rs ss i r s k l g m h e =
    k ∙ next-same rs ss i r s l g m h ∙ ap (λ b. b && same_spans (map pure_run (drop (i + 1) rs)) (map pure_run (drop (i + 1) ss))) e

pub runs_all : (rs ss : List Run) (i : ℕ) → SameBehind rs ss i → length rs ≤ i → length rs ≡ length ss →
    true ≡ same_spans (map pure_run rs) (map pure_run ss)
runs_all rs ss i k l e =
    sym (k ∙ ap (λ us. same_all us (drop i ss)) (drop_all i rs l) ∙ ap (λ us. same_all [] us) (drop_all i ss (omega (arith, l, e))))

pub ruleset runs_compared = (runs_uneven, runs_not, runs_more, runs_all)
