-- What comes of several things that are written in order: something of each, or nothing of one of them.
use Rattle.std.specs.Prelude.{◌≡◌, List, ◌∷◌, ◌++◌, Option, Some, None}
use Rattle.ess_semantics.specs.Lists.{append_all}
use Rattle.ess_semantics.specs.Trees.{Ex}
use Rattle.conjure_laws.specs.SideBySide.{Along}

-- C c o says that o comes of c: an expression of a model, or nothing.
module _ (C : Ex → Option Ex → Type 0) where
  -- Of each of these comes the expression beside it.
  pub record AllCome (cs es : List Ex) : Type 0 where
    pub each : Along cs es (λ c e. C c (Some e))

  -- Of one of these comes nothing.
  pub record OneLacks (cs : List Ex) : Type 0 where
    pub before : List Ex
    pub item : Ex
    pub behind : List Ex
    pub is : cs ≡ before ++ item ∷ behind
    pub nothing : C item None

  -- These come of all, in order, or nothing of one of them.
  abbrev pub AreAnswered : List Ex → Option (List Ex) → Type 0
  AreAnswered cs (Some es) = AllCome cs es
  AreAnswered cs None = OneLacks cs

  -- The rules of one, of which some expression comes: this one, or none where it is what needs no rule.
  pub record IsUsed (rules : Ex → List Ex) (c : Ex) (rs : List Ex) : Type 0 where
    pub new : Ex
    pub comes : C c (Some new)
    pub is : rs ≡ rules new

  -- The rules of all, one behind the other.
  pub record AllUsed (rules : Ex → List Ex) (cs es : List Ex) : Type 0 where
    pub rows : List (List Ex)
    pub each : Along cs rows (IsUsed rules)
    pub all : es ≡ append_all rows

  -- The rules of all, or nothing comes of one of them.
  abbrev pub AreUsed : (Ex → List Ex) → List Ex → Option (List Ex) → Type 0
  AreUsed rules cs (Some es) = AllUsed rules cs es
  AreUsed rules cs None = OneLacks cs
