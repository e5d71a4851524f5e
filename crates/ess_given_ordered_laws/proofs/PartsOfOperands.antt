-- Rules of comprehensions whose items have an order have what the parts have that they are made of, where the lookup of an operand does.
use Rattle.std.proofs.Common.{◌≡◌, refl, subst, ℕ, zero, suc, Bool, true, false, ◌&&◌, if◌then◌else◌, List, [], ◌∷◌, Option, Some, None}
use Rattle.std.specs.Prelude.{IsTrue, is_some}
use Rattle.ess_semantics.specs.Lists.{and_then, or_else}
use Rattle.ess_semantics.specs.Values.{Text}
use Rattle.ess_semantics.specs.Names.{Names}
use Rattle.ess_semantics.specs.Trees.{name_pat, Op, Ex, Exs, name_ex, node_ex, no_exs, more_exs, Gens}
use Rattle.ess_semantics.specs.Types.{Ty}
use Rattle.ess_semantics.specs.Typing.{type_of}
use Rattle.ess_rules_laws.specs.LiteralRules.{nth}
use Rattle.ess_rules_laws.specs.Listings.{Alternative}
use Rattle.ess_rules_laws.specs.ListedSources.{laid_out}
use Rattle.ess_rules_laws.specs.AlternativeLookups.{select_each, select_whole_each}
use Rattle.ess_refine_laws.specs.AllRules.{Supply, OfSome}
use Rattle.ess_open_rules_laws.specs.OpenRules.{gives_scalar, is_compound_ty}
use Rattle.ess_ordered_laws.specs.NumberedItems.{ordered_lookup}
use Rattle.ess_ordered_laws.specs.PickedSources.{each_source}
use Rattle.ess_ordered_laws.specs.OrderedRules.{item_alone, operand_lookup, over_operand, at_operand}
use Rattle.ess_given_laws.specs.PartsHave.{Wanted, PartsHave, AllHave, GensHave}
use Rattle.ess_given_laws.proofs.PartsOfFolds.{Answers, HaveAll, HaveSome, under}
use Rattle.ess_given_offers_laws.proofs.PartsOfPicks.{selected-each, whole-each}
use Rattle.ess_given_ordered_laws.specs.OrderedNames.{rewritten_operand}

-- What both say of an expression, if there is one.
pub of-both : (o : Option Ex) (P Q R : Ex → Type 0) → ((t : Ex) → P t → Q t → R t) → OfSome o P → OfSome o Q → OfSome o R
of-both None P Q R f h k = tt
of-both (Some t) P Q R f h k = f t h k

-- The operand of the number that a test tells.
pub told-operand : (es : Exs) (c b : Bool) (P : Ex → Type 0) → c ≡ b → OfSome (nth es (if c then 1 else 2)) P →
    OfSome (nth es (if b then 1 else 2)) P
told-operand es c b P q h = subst (λ b. OfSome (nth es (if b then 1 else 2)) P) q h

module _ (w : Wanted) where
  -- ---- comprehensions over what is picked

  -- The name may be bound over each of the alternatives.
  abbrev pub EachDraws : Text → List Alternative → Type 0
  EachDraws x [] = Unit {0}
  EachDraws x (a ∷ l) = IsTrue (w.draws (name_pat x) (laid_out a)) × EachDraws x l

  pub each-source-has : (x y : Text) (l : List Alternative) (e : Ex) (hs : Gens) → HaveAll w l → EachDraws x l → IsTrue (w.name x) →
      IsTrue (w.draws (name_pat y) (name_ex x)) → PartsHave w e → GensHave w hs → HaveAll w (each_source x y l e hs)
  each-source-has x y [] e hs h d n q k j = tt
  each-source-has x y (a ∷ l) e hs h d n q k j =
      (((k, (q, n, j)), (d.0, h.0, tt)), each-source-has x y l e hs h.1 d.1 n q k j)

  -- ---- the rules

  pub either-looks : (o p : Option (List Alternative)) (c : Bool) → HaveSome w o → HaveSome w p →
      HaveSome w (or_else o (if c then p else None))
  either-looks None p true h k = k
  either-looks None p false h k = tt
  either-looks (Some l) p c h k = h

  module _ (s : Supply) (g : Names Ty) (n : IsTrue (w.name s.one)) (draws : (k : Ex) → IsTrue (w.draws (name_pat s.one) k)) where
    pub alone-has : (e : Ex) → PartsHave w e → HaveSome w (ordered_lookup s.third s.parts e) → Answers w (item_alone s g e)
    alone-has e h j = go (ordered_lookup s.third s.parts e) j
      where
        go : (r : Option (List Alternative)) → HaveSome w r →
            Answers w (and_then r (λ l. if gives_scalar g e then select_whole_each s.one l e else None))
        go None k = tt
        go (Some l) k = under w (gives_scalar g e) _ (whole-each w s.one n draws l e k h)

    operand-has : (k : ℕ) (e t : Ex) → PartsHave w e → HaveSome w (operand_lookup s g e t) → Answers w (over_operand s g k e t)
    operand-has k e t h j = go (operand_lookup s g e t) j
      where
        go : (r : Option (List Alternative)) → HaveSome w r →
            Answers w (and_then r (λ l. if gives_scalar g e && is_compound_ty (type_of t g) then select_each s.one k l e else None))
        go None i = tt
        go (Some l) i = under w (gives_scalar g e && is_compound_ty (type_of t g)) _ (selected-each w s.one n draws k l e i h)

    -- What the operand offers.
    abbrev Looks : Ex → Ex → Type 0
    Looks e t = HaveSome w (operand_lookup s g e t)

    at-has : (k : ℕ) (b : Bool) (op : Op) (es : Exs) → AllHave w es →
        OfSome (nth es k) (λ t. HaveSome w (operand_lookup s g (node_ex b op es) t)) → Answers w (at_operand s g k (node_ex b op es))
    at-has k b op es h j = go (nth es k) j
      where
        go : (r : Option Ex) → OfSome r (λ t. HaveSome w (operand_lookup s g (node_ex b op es) t)) →
            Answers w (and_then r (over_operand s g k (node_ex b op es)))
        go None j = tt
        go (Some t) j = operand-has k (node_ex b op es) t h j

    -- By the operand at which the root is rewritten.
    pub item-has : (e : Ex) → PartsHave w e → OfSome (rewritten_operand s g e) (λ t. HaveSome w (operand_lookup s g e t)) →
        Answers w (or_else (at_operand s g 1 e) (at_operand s g 2 e))
    item-has (node_ex b op es) h j = go (at_operand s g 1 (node_ex b op es)) (at_operand s g 2 (node_ex b op es))
        (λ q. at-has 1 b op es h (told-operand es (is_some (at_operand s g 1 (node_ex b op es))) true (Looks (node_ex b op es)) q j))
        (λ q. at-has 2 b op es h (told-operand es (is_some (at_operand s g 1 (node_ex b op es))) false (Looks (node_ex b op es)) q j))
      where
        go : (o p : Option Ex) → (is_some o ≡ true → Answers w o) → (is_some o ≡ false → Answers w p) → Answers w (or_else o p)
        go None p j k = k refl
        go (Some f) p j k = j refl
    item-has _ h j = tt

  -- ---- the operand

  nth-has : (es : Exs) (k : ℕ) → AllHave w es → OfSome (nth es k) (PartsHave w)
  nth-has no_exs k h = tt
  nth-has (more_exs a es) zero h = tt
  nth-has (more_exs a es) (suc zero) h = h.0
  nth-has (more_exs a es) (suc (suc k)) h = nth-has es (suc k) h.1

  pub rewritten-has : (s : Supply) (g : Names Ty) (e : Ex) → PartsHave w e → OfSome (rewritten_operand s g e) (PartsHave w)
  rewritten-has s g (node_ex b op es) h = nth-has es (if is_some (at_operand s g 1 (node_ex b op es)) then 1 else 2) h
  rewritten-has s g _ h = tt
