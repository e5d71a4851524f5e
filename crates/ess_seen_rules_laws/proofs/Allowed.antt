-- Answers of rules: of one that may fire any, of another one none, and of the one that counts members one at an inclusion of sets.
use Rattle.std.proofs.Common.{◌≡◌, refl, sym, subst, inl, inr, ◌⊎◌, Bool, true, false, Option, Some, None}
use Rattle.ess_semantics.specs.Names.{Names}
use Rattle.ess_semantics.specs.Trees.{Ex}
use Rattle.ess_semantics.specs.Types.{Ty}
use Rattle.ess_refine_laws.specs.AllRules.{Rule, included_multisets}
use Rattle.ess_seen_laws.specs.MayFire.{may_fire, CountsMembers}

-- An answer where one may be, or none.
abbrev pub Allowed : Bool → Option Ex → Type 0
Allowed true o = Unit {0}
Allowed false None = Unit {0}
Allowed false (Some f) = ⊥

-- None is allowed to each.
pub allowed-none : (b : Bool) (o : Option Ex) → o ≡ None → Allowed b o
allowed-none b o q = subst (Allowed b) (sym q) (go b)
  where
    go : (b : Bool) → Allowed b None
    go true = tt
    go false = tt

-- A rule that answers may fire.
pub allowed-so : (b : Bool) (o : Option Ex) (f : Ex) → Allowed b o → o ≡ Some f → b ≡ true
allowed-so true o f h q = refl
allowed-so false None f h q = cc
allowed-so false (Some g) f h q = absurd h

-- A rule that may not fire doesn't.
pub allowed-not : (o : Option Ex) → Allowed false o → o ≡ None
allowed-not None h = refl
allowed-not (Some f) h = absurd h

-- ---- with the rule that counts members

-- An answer of a rule that reads no kind.
abbrev pub Answer : Names Ty → Rule → Ex → Option Ex → Type 0
Answer g included_multisets e None = Unit {0}
Answer g included_multisets e (Some f) = CountsMembers g included_multisets e
Answer g u e o = Allowed (may_fire u) o

-- So a rule that answers may fire, or counts members.
pub answer-so : (g : Names Ty) (u : Rule) (e f : Ex) (o : Option Ex) → Answer g u e o → o ≡ Some f →
    (may_fire u ≡ true) ⊎ CountsMembers g u e
answer-so g included_multisets e f None h q = cc
answer-so g included_multisets e f (Some x) h q = inr h
answer-so g u e f o h q = inl (allowed-so (may_fire u) o f h q)
