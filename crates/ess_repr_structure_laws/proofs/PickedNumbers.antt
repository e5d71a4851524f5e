-- Numbers of attributes that are picked from those of a domain have a property that these have.
use Rattle.std.proofs.Common.{Bool, true, false, List, [], ◌∷◌, pos, Option, Some, None, if◌then◌else◌}
use Rattle.ess_semantics.specs.declared.words.Key.{Key}
use Rattle.ess_semantics.specs.Lists.{or_else, or_default}
use Rattle.ess_semantics.specs.Domains.{same_key}
use Rattle.ess_semantics.specs.Trees.{Mark, flag, valued, Ex, Exs, number_ex, no_exs, more_exs}
use Rattle.ess_repr_laws.specs.StructureParts.{number_of_key}
use Rattle.ess_repr_laws.specs.ViewParts.{number_as}
use Rattle.ess_repr_declare_laws.specs.SizeTerms.{number_of, greatest_size_of, occurrences_ex}

module _ (P : Ex → Type 0) where
  -- Each operand has the property.
  abbrev pub AllHave : Exs → Type 0
  AllHave no_exs = Unit {0}
  AllHave (more_exs e es) = P e × AllHave es

  -- One of two expressions.
  pub if-has : (b : Bool) (x y : Ex) → P x → P y → P (if b then x else y)
  if-has true x y g h = g
  if-has false x y g h = h

  pub if-have : (b : Bool) (x y : List Mark × Exs) → AllHave x.1 → AllHave y.1 → AllHave ((if b then x else y).1)
  if-have true x y a b = a
  if-have false x y a b = b

  -- The number of an attribute, in front of others.
  pub key-picked : (k : Key) (ms : List Mark) (es : Exs) (ns : List Mark) (os : Exs) → AllHave es → AllHave os → AllHave
      ((number_of_key k ms es ns os).1)
  key-picked k [] es ns os a b = b
  key-picked k (flag j ∷ ms) es ns os a b = key-picked k ms es ns os a b
  key-picked k (valued j ∷ ms) no_exs ns os a b = b
  key-picked k (valued j ∷ ms) (more_exs e es) ns os a b =
      if-have (same_key j k) (valued k ∷ ns, more_exs e os) (number_of_key k ms es ns os) (a.0, b) (key-picked k ms es ns os a.1 b)

  -- The same as another attribute.
  pub key-picked-as : (k j : Key) (ms : List Mark) (es : Exs) (ns : List Mark) (os : Exs) → AllHave es → AllHave os → AllHave
      ((number_as k j ms es ns os).1)
  key-picked-as k j [] es ns os a b = b
  key-picked-as k j (flag i ∷ ms) es ns os a b = key-picked-as k j ms es ns os a b
  key-picked-as k j (valued i ∷ ms) no_exs ns os a b = b
  key-picked-as k j (valued i ∷ ms) (more_exs e es) ns os a b =
      if-have (same_key i k) (valued j ∷ ns, more_exs e os) (number_as k j ms es ns os) (a.0, b) (key-picked-as k j ms es ns os a.1 b)

  -- A number that is there has the property.
  abbrev pub MayHave : Option Ex → Type 0
  MayHave None = Unit {0}
  MayHave (Some e) = P e

  if-may : (b : Bool) (e : Ex) (o : Option Ex) → P e → MayHave o → MayHave (if b then Some e else o)
  if-may true e o p h = p
  if-may false e o p h = h

  else-may : (o p : Option Ex) → MayHave o → MayHave p → MayHave (or_else o p)
  else-may None p g h = h
  else-may (Some e) p g h = g

  pub default-has : (o : Option Ex) (e : Ex) → MayHave o → P e → P (or_default o e)
  default-has None e g h = h
  default-has (Some f) e g h = g

  number-may : (k : Key) (ms : List Mark) (es : Exs) → AllHave es → MayHave (number_of k ms es)
  number-may k [] es a = tt
  number-may k (flag j ∷ ms) es a = number-may k ms es a
  number-may k (valued j ∷ ms) no_exs a = tt
  number-may k (valued j ∷ ms) (more_exs e es) a = if-may (same_key j k) e (number_of k ms es) a.0 (number-may k ms es a.1)

  pub greatest-may : (ms : List Mark) (es : Exs) → AllHave es → MayHave (greatest_size_of ms es)
  greatest-may ms es a = else-may (number_of Key.Size ms es) (number_of Key.MaxSize ms es) (number-may Key.Size ms es a)
      (number-may Key.MaxSize ms es a)

  -- How often members of a multiset occur.
  pub occurrences-may : (ms : List Mark) (es : Exs) → AllHave es → P (number_ex (pos 0)) → P (occurrences_ex ms es)
  occurrences-may ms es a z = default-has (or_else (number_of Key.MaxOccur ms es) (greatest_size_of ms es)) (number_ex (pos 0))
      (else-may (number_of Key.MaxOccur ms es) (greatest_size_of ms es) (number-may Key.MaxOccur ms es a) (greatest-may ms es a)) z
