-- Trees that are told apart have what is given.
use Rattle.std.proofs.Common.{◌≡◌, ℕ, ◌+◌, ◌≤◌, ◌^◌, Bool, true, [], length, arith}
use Rattle.ess_semantics.specs.Values.{Text}
use Rattle.ess_semantics.specs.Trees.{Ex}
use Rattle.ess_given_laws.specs.conjure_model_laws.ToldApart.{told}
use Rattle.ess_given_conditions_laws.specs.InScope.{is_given_in}
use Rattle.ess_given_conditions_laws.specs.GrowingNames.{HasNoneFrom, Grows}
use Rattle.ess_given_conditions_laws.specs.ToldTrees.{GivenApart, ToldTreesAreGiven}
use Rattle.ess_given_conditions_laws.proofs.Assigned.{assigned, Assigned, as-assigned, assigned-grows}
use Rattle.ess_given_conditions_laws.proofs.Marks.{marks, ex-number}
use Rattle.ess_given_conditions_laws.proofs.ToldGiven.{given-told}
use Rattle.ess_given_conditions_laws.proofs.ScopedGiven.{fixed-scoped, given-scoped}

up-to : (k a l c : ℕ) → k ≡ a + l → k ≤ c → a + l ≤ c
up-to k a l c q h = omega (arith, q, h)

below : (k a l : ℕ) → k ≡ a + l → a + l ≤ k
below k a l q = omega (arith, q)

apart : (t : Text → Bool) (n : ℕ) (e : Ex) → HasNoneFrom n t → (told e [] n).1 ≤ 2 ^ 64 → is_given_in t t e ≡ true → GivenApart n t e
apart t n e f l h = record { names = v; grow = g; given = given-told t v g.more e t [] n g.more a h }
  where
    q : (told e [] n).1 ≡ n + length (marks t t e)
    q = ex-number t e t [] n

    v : Text → Bool
    v = assigned t n (marks t t e)

    a : Assigned v n (marks t t e)
    a = as-assigned t n (marks t t e) (up-to (told e [] n).1 n (length (marks t t e)) (2 ^ 64) q l)

    g : Grows n (told e [] n).1 t v
    g = assigned-grows t n (told e [] n).1 (marks t t e) f (below (told e [] n).1 n (length (marks t t e)) q) l

-- What is proved of trees told apart.
pub told-trees-are-given : ToldTreesAreGiven
told-trees-are-given = record {
  apart = apart;
  at_their_places = λ u e h. given-scoped u e u (λ a q. q) h;
  fixed_at_their_places = λ u e h. fixed-scoped u e u (λ a q. q) h;
}
