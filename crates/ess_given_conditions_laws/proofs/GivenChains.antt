-- Chains keep what is given, for names that grow by those that they take.
use Rattle.std.proofs.Common.{refl, ◌∙◌, ℕ, ◌≤◌, ◌^◌, Bool, [], arith}
use Rattle.ess_semantics.specs.Values.{Text}
use Rattle.ess_semantics.specs.Names.{Names}
use Rattle.ess_semantics.specs.Trees.{Ex}
use Rattle.ess_semantics.specs.Types.{Ty}
use Rattle.ess_semantics.specs.Contexts.{fill}
use Rattle.ess_semantics.specs.NamesAt.{names_at}
use Rattle.ess_given_laws.specs.conjure_model_laws.ToldApart.{told}
use Rattle.ess_given_laws.specs.ess_chain_names_laws.Steps.{Chain, at_rest, one_more}
use Rattle.ess_given_laws.proofs.ess_chain_names_laws.ToldNames.{ex-up}
use Rattle.ess_given_laws.specs.Given.{GivenIn}
use Rattle.ess_given_conditions_laws.specs.GivenChains.{IsGivenStep, by_given_rule, by_new_names, SparesAll, StaysGiven, ChainsKeepGiven}
use Rattle.ess_given_conditions_laws.specs.GrowingNames.{HasNoneFrom, Grows}
use Rattle.ess_given_conditions_laws.proofs.GivenSteps.{by-a-step}

on : (a b c : ℕ) → a ≤ b → b ≤ c → a ≤ c
on a b c p q = omega (arith, p, q)

pub step-up : (n m : ℕ) (g : Names Ty) (a b : Ex) → IsGivenStep n g a b m → n ≤ m
step-up n m g a b (by_given_rule k r c q l p) = omega (arith, l)
step-up n m g a b (by_new_names l) = on n (told a [] n).1 m (ex-up a [] n) l

pub chain-up : (n m : ℕ) (g : Names Ty) (old new : Ex) → Chain IsGivenStep n g old new m → n ≤ m
chain-up n m g old new (at_rest l) = l
chain-up n m g old new (one_more {s = s} {k = k} {a = a} {b = b} c l i r) =
    on n s m l (on s k m (step-up s k (names_at c g) a b i) (chain-up k m g (fill c b) new r))

pub none-later : (n m : ℕ) (u : Text → Bool) → n ≤ m → HasNoneFrom n u → HasNoneFrom m u
none-later n m u l f j p q = f j (on n m j l p) q

pub spares-later : (n m : ℕ) (e : Ex) → n ≤ m → SparesAll n e → SparesAll m e
spares-later n m e l s = record { among = s.among; has = s.has; spared = none-later n m s.among l s.spared }

-- Names that grow, and then grow further.
pub grows-on : (n s k m : ℕ) (u v w : Text → Bool) → n ≤ s → n ≤ k → Grows s k u v → Grows k m v w → Grows n m u w
grows-on n s k m u v w l j g h = record {
  more = λ a t. h.more a (g.more a t);
  but_reserved = λ a f. h.but_reserved a (λ i p q. f i (on n k i j p) q) ∙ g.but_reserved a (λ i p q. f i (on n s i l p) q);
  none_from = h.none_from;
}

along : (u : Text → Bool) (n m : ℕ) (g : Names Ty) (old new : Ex) → Chain IsGivenStep n g old new m → m ≤ 2 ^ 64 → HasNoneFrom n u →
    SparesAll n old → GivenIn u old → StaysGiven n m u new
along u n m g old new (at_rest l) b f s h = record {
  names = u;
  grow = record { more = λ a t. t; but_reserved = λ a k. refl; none_from = none-later n m u l f };
  given = h;
  spares = spares-later n m old l s;
}
along u n m g old new (one_more {s = t} {k = k} {a = a} {b = b} c l i r) z f s h =
    let d = chain-up k m g (fill c b) new r in
    let x = by-a-step u t k (names_at c g) a b i (on k m (2 ^ 64) d z) c (none-later n t u l f) (spares-later n t old l s) h in
    let y = along x.names k m g (fill c b) new r z x.grow.none_from x.spares x.given in
    record {
      names = y.names;
      grow = grows-on n t k m u x.names y.names l (on n t k l (step-up t k (names_at c g) a b i)) x.grow y.grow;
      given = y.given;
      spares = y.spares;
    }

-- What is proved of chains.
pub chains-keep-given : ChainsKeepGiven
chains-keep-given = record { by_a_step = by-a-step; along = along }
