-- Which numbers a tree spells, and what it becomes over tables.
use Rattle.std.proofs.Common.{◌≡◌, refl, sym, ◌∙◌, Bool, true, false, ◌&&◌, List, [], ◌∷◌, ◌++◌, map, ℤ}
use Rattle.std.proofs.lemmas.List.Folds.{list_all-append}
use Rattle.std.specs.List.{list_all}
use Rattle.ess_semantics.specs.Lists.{append_all}
use Rattle.ess_semantics.specs.Trees.{Op, Ex, Exs, node_ex, comp_ex, Gens}
use Rattle.ess_semantics.specs.Constants.{numbers_of_part}
use Rattle.ess_semantics.proofs.Tests.{and-left, and-right}

-- ---- numbers of parts

-- The numbers of these parts.
abbrev pub numbers_in : List Ex → List ℤ
numbers_in es = append_all (map numbers_of_part es)

-- Each number of these parts has the property.
abbrev pub Spelled : (ℤ → Bool) → List Ex → Type 0
Spelled q es = list_all q (numbers_in es) ≡ true

both-true : (b c : Bool) → b ≡ true → c ≡ true → b && c ≡ true
both-true true c h k = k
both-true false c h k = cc

all-left : (q : ℤ → Bool) (xs ys : List ℤ) → list_all q (xs ++ ys) ≡ true → list_all q xs ≡ true
all-left q xs ys h = and-left (list_all q xs) (list_all q ys) (sym (list_all-append q xs ys) ∙ h)

all-right : (q : ℤ → Bool) (xs ys : List ℤ) → list_all q (xs ++ ys) ≡ true → list_all q ys ≡ true
all-right q xs ys h = and-right (list_all q xs) (list_all q ys) (sym (list_all-append q xs ys) ∙ h)

all-both : (q : ℤ → Bool) (xs ys : List ℤ) → list_all q xs ≡ true → list_all q ys ≡ true → list_all q (xs ++ ys) ≡ true
all-both q xs ys h k = list_all-append q xs ys ∙ both-true (list_all q xs) (list_all q ys) h k

-- Of parts side by side.
pub spelled-left : (q : ℤ → Bool) (as' bs : List Ex) → Spelled q (as' ++ bs) → Spelled q as'
spelled-left q [] bs h = refl
spelled-left q (a ∷ as') bs h =
    all-both q (numbers_of_part a) (numbers_in as') (all-left q (numbers_of_part a) (numbers_in (as' ++ bs)) h)
    (spelled-left q as' bs (all-right q (numbers_of_part a) (numbers_in (as' ++ bs)) h))

pub spelled-right : (q : ℤ → Bool) (as' bs : List Ex) → Spelled q (as' ++ bs) → Spelled q bs
spelled-right q [] bs h = h
spelled-right q (a ∷ as') bs h = spelled-right q as' bs (all-right q (numbers_of_part a) (numbers_in (as' ++ bs)) h)

pub spelled-both : (q : ℤ → Bool) (as' bs : List Ex) → Spelled q as' → Spelled q bs → Spelled q (as' ++ bs)
spelled-both q [] bs h k = k
spelled-both q (a ∷ as') bs h k =
    all-both q (numbers_of_part a) (numbers_in (as' ++ bs)) (all-left q (numbers_of_part a) (numbers_in as') h)
    (spelled-both q as' bs (all-right q (numbers_of_part a) (numbers_in as') h) k)

-- ---- what is made

-- Which properties of numbers count.
module _ (Counts : (ℤ → Bool) → Type 0) where
  -- Of a tree with the parts xs comes one with the parts ys, which spells no other numbers but those that count.
  pub record Alike (xs ys : List Ex) : Type 0 where
    pub spells : (q : ℤ → Bool) → Counts q → Spelled q xs → Spelled q ys

  -- The same parts.
  pub same-alike : (xs : List Ex) → Alike xs xs
  same-alike xs = record { spells = λ q c h. h }

  module _ {xs us ys vs : List Ex} where
    -- One behind the other.
    pub two-alike : Alike xs us → Alike ys vs → Alike (xs ++ ys) (us ++ vs)
    two-alike x y = record {
      spells = λ q c h. spelled-both q us vs (x.spells q c (spelled-left q xs ys h)) (y.spells q c (spelled-right q xs ys h));
    }

  module _ {xs ys : List Ex} where
    -- The last operand.
    pub alone-alike : Alike xs ys → Alike (xs ++ []) (ys ++ [])
    alone-alike x = two-alike x (same-alike [])

    -- An operator's node, and a comprehension.
    pub node-alike : {b c : Bool} {op : Op} {es fs : Exs} → Alike xs ys → Alike (node_ex b op es ∷ xs) (node_ex c op fs ∷ ys)
    node-alike x = record { spells = x.spells }

    pub list-alike : {e f : Ex} {gs hs : Gens} → Alike xs ys → Alike (comp_ex e gs ∷ xs) (comp_ex f hs ∷ ys)
    list-alike x = record { spells = x.spells }
