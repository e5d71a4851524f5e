-- How much a domain weighs: its parts weigh less, so that what goes down it ends.
use Rattle.std.proofs.Common.{◌≡◌, sym, ap, ℕ, zero, suc, ◌+◌, ◌<◌, List, [], ◌∷◌, map, length, get_or, arith}
use Rattle.ess_semantics.specs.Domains.{Domain, Domains, booleans, integers, named, tuples, records, matrices, sets, msets, functions, relations, partitions, no_domains, more_domains}
use Rattle.ess_eval_domains.specs.declared.closed.Closed.{Closed}
use Rattle.ess_eval_domains.specs.declared.closed.FieldClosed.{FieldClosed}
use Rattle.ess_eval_domains.specs.declared.closed.Closed.TheViews.{out-FieldClosed}
use Rattle.ess_eval_domains.specs.ClosedViews.{domains_of, pure_closed, pure_closeds, pure_field_closed}
use Rattle.ess_eval_domains.proofs.ClosedEquations.{pure_field_closed_is}

abbrev mutual
  pub weight : Domain → ℕ
  weight booleans = 1
  weight (integers ss) = 1
  weight (named t n) = 1
  weight (tuples ds) = 4 + weights ds
  weight (records fs ds) = 4 + weights ds
  weight (matrices is d) = 4 + weights is + weight d
  weight (sets ks d) = 4 + weight d
  weight (msets ks d) = 4 + weight d
  weight (functions ks d c) = 5 + weight d + weight c
  weight (relations ks ds) = 6 + weights ds
  weight (partitions ks d) = 6 + weight d

  pub weights : Domains → ℕ
  weights no_domains = 0
  weights (more_domains d ds) = 3 + weight d + weights ds

-- The domains of fields.
abbrev pub field_domains : List FieldClosed → Domains
field_domains fs = domains_of (map (λ f. f.1) (map pure_field_closed fs))

pub lighter_part : (ds : List Closed) (i : ℕ) (d : Closed) → i < length ds → d ≡ get_or ds i d → weight (pure_closed d) < 1 + weights (pure_closeds ds)
lighter_part [] i d h is = absurd (omega (arith, h))
lighter_part (c ∷ ds) zero d h is = ap-less (sym (ap (λ x. weight (pure_closed x)) is))
  where
    ap-less : weight (pure_closed c) ≡ weight (pure_closed d) → weight (pure_closed d) < 1 + (3 + weight (pure_closed c) + weights (pure_closeds ds))
    ap-less e = omega (arith, e)
lighter_part (c ∷ ds) (suc i) d h is = let k : weight (pure_closed d) < 1 + weights (pure_closeds ds) = lighter_part ds i d (omega (arith, h)) is in omega (arith, k)

pub lighter_field : (fs : List FieldClosed) (i : ℕ) (f : FieldClosed) → i < length fs → f ≡ get_or fs i f →
    weight (pure_field_closed f).1 < 1 + weights (field_domains fs)
lighter_field [] i f h is = absurd (omega (arith, h))
lighter_field (g ∷ fs) zero f h is = ap-less (sym (ap (λ x. weight (pure_field_closed x).1) is))
  where
    ap-less : weight (pure_field_closed g).1 ≡ weight (pure_field_closed f).1
        → weight (pure_field_closed f).1 < 1 + (3 + weight (pure_field_closed g).1 + weights (field_domains fs))
    ap-less e = omega (arith, e)
lighter_field (g ∷ fs) (suc i) f h is =
    let k : weight (pure_field_closed f).1 < 1 + weights (field_domains fs) = lighter_field fs i f (omega (arith, h)) is in omega (arith, k)

pub same_weight : (f : FieldClosed) → weight (pure_closed (out-FieldClosed f).domain) ≡ weight (pure_field_closed f).1
same_weight f = ap (λ x. weight x.1) (sym (pure_field_closed_is f))
