-- What a set that is made of two offers: each of its alternatives binds a new name over the members of one of both, perhaps under a
-- condition on the other, and brings that name. So what any set offers, whatever tells it, brings members of its kind.
use Rattle.std.proofs.Common.{◌≡◌, refl, ℕ, Bool, true, false, if◌then◌else◌, List, [], ◌∷◌, Option, Some, None, option_map}
use Rattle.ess_semantics.specs.declared.words.Op1.{Op1}
use Rattle.ess_semantics.specs.declared.words.Op2.{Op2}
use Rattle.ess_semantics.specs.Lists.{or_else}
use Rattle.ess_semantics.specs.Values.{Text}
use Rattle.ess_semantics.specs.Names.{Names, look}
use Rattle.ess_semantics.specs.Trees.{Ex, name_ex, Gens, no_gens, cond, ex1, ex2}
use Rattle.ess_semantics.specs.Types.{Ty}
use Rattle.ess_semantics.specs.Typing.{type_of}
use Rattle.ess_rules_laws.specs.InclusionRules.{both_sets}
use Rattle.ess_rules_laws.specs.Listings.{Alternative, those}
use Rattle.ess_refine_laws.specs.AllRules.{Supply, offered}
use Rattle.ess_kind_rules_laws.specs.ViewListings.{view_listing}
use Rattle.ess_open_rules_laws.specs.OpenSources.{all_offered}
use Rattle.ess_flat_laws.specs.Flat.{denied}
use Rattle.ess_seen_laws.specs.Seen.{Kind, scalars, sets_of, Bound, from_a_set, united, shared, lessened, SetTerm, view, drawn, combined, Seen, named, one, within, set_within, Going, at_end, among, where_holds}
use Rattle.ess_seen_laws.specs.Putting.{Within, IsItem}
use Rattle.ess_seen_laws.specs.Laws.{SeenTreesStayAmongMore}
use Rattle.ess_seen_stays_laws.proofs.Terms.{look-here}
use Rattle.ess_seen_stays_laws.proofs.Offered.{Brings, IsListed, view-listed}

module _ (cells : Text → Option (Bool × List ℕ)) where
  -- Each alternative brings such an item.
  abbrev pub AllBring : Text → Names Bound → Kind → List Alternative → Type 0
  AllBring x r k [] = Unit {0}
  AllBring x r k (a ∷ l) = Brings cells x r k a × AllBring x r k l

  -- Where anything is offered there is an alternative, and each brings one.
  abbrev pub AreBrought : Text → Names Bound → Kind → Option (List Alternative) → Type 0
  AreBrought x r k None = Unit {0}
  AreBrought x r k (Some []) = ⊥
  AreBrought x r k (Some (a ∷ l)) = Brings cells x r k a × AllBring x r k l

  -- One alternative is several.
  brought-alone : (x : Text) (r : Names Bound) (k : Kind) (o : Option Alternative) → IsListed cells x r k o →
      AreBrought x r k (or_else (option_map (λ a. a ∷ []) o) None)
  brought-alone x r k None h = tt
  brought-alone x r k (Some a) h = (h, tt)

  -- What is offered under a condition.
  brought-if : (x : Text) (r : Names Bound) (k : Kind) (b : Bool) (a : Alternative) (l : List Alternative) → Brings cells x r k a →
      AllBring x r k l → AreBrought x r k (or_else (if b then Some (a ∷ l) else None) None)
  brought-if x r k true a l h m = (h, m)
  brought-if x r k false a l h m = tt

  brought-if-at-all : (x : Text) (r : Names Bound) (k : Kind) (b : Bool) (a : Alternative) (l : List Alternative) → Brings cells x r k a →
      AllBring x r k l → AreBrought x r k (or_else (or_else (if b then Some (a ∷ l) else None) None) None)
  brought-if-at-all x r k true a l h m = (h, m)
  brought-if-at-all x r k false a l h m = tt

  module _ (more : SeenTreesStayAmongMore) (x : Text) (r : Names Bound) (new : look r x ≡ None) where
    -- The names with x, which is bound over members of this kind.
    abbrev pub Drawn : Kind → Names Bound
    Drawn k = (x, from_a_set k) ∷ r

    -- All others stay.
    pub drawn-wider : (k : Kind) → Within r (Drawn k)
    drawn-wider k = more.new_name r x (from_a_set k) new

    here : (k : Kind) → look (Drawn k) x ≡ Some (from_a_set k)
    here k = look-here r x (from_a_set k)

    -- So x is a member of the kind.
    drawn-item : (k : Kind) → IsItem cells (Drawn k) (name_ex x) k
    drawn-item (scalars m) = named (here (scalars m)) refl
    drawn-item (sets_of k) = drawn (here (sets_of k))

    -- It may be asked whether x is in a set of such members.
    pub drawn-within : (k : Kind) {s : Ex} → SetTerm cells r s k → Seen cells (Drawn k) (ex2 true Op2.Member (name_ex x) s) true
    drawn-within (scalars m) {s} h =
        within (named (here (scalars m)) refl) (more.set cells r (Drawn (scalars m)) s (scalars m) (drawn-wider (scalars m)) h)
    drawn-within (sets_of k) {s} h =
        set_within (drawn (here (sets_of k))) (more.set cells r (Drawn (sets_of k)) s (sets_of k) (drawn-wider (sets_of k)) h)

    -- The members of a set, where a condition holds.
    those-bring : {s : Ex} {k : Kind} {gs : Gens} → SetTerm cells r s k → Going cells (Drawn k) gs (Drawn k) →
        Brings cells x r k (those x s gs)
    those-bring {k = k} h g = record { bound = from_a_set k; going = among h g; item = drawn-item k }

    bring-all : {s : Ex} {k : Kind} → SetTerm cells r s k → Brings cells x r k (those x s no_gens)
    bring-all h = those-bring h at_end

    bring-shared : {s t : Ex} {k : Kind} → SetTerm cells r s k → SetTerm cells r t k →
        Brings cells x r k (those x s (cond (ex2 true Op2.Member (name_ex x) t) no_gens))
    bring-shared {k = k} h i = those-bring h (where_holds (drawn-within k i) at_end)

    bring-others : {s t : Ex} {k : Kind} → SetTerm cells r s k → SetTerm cells r t k →
        Brings cells x r k (those x s (cond (ex1 true Op1.Not (ex2 true Op2.Member (name_ex x) t)) no_gens))
    bring-others {k = k} h i = those-bring h (where_holds (one denied (drawn-within k i)) at_end)

  module _ (more : SeenTreesStayAmongMore) (s : Supply) (r : Names Bound) (new : look r s.one ≡ None) (g : Names Ty) where
    -- What a set offers by its form.
    pub offered-brought : {t : Ex} {k : Kind} → SetTerm cells r t k → AreBrought s.one r k (offered s g t)
    offered-brought (view n f k p) = tt
    offered-brought (drawn h) = tt
    offered-brought {k = k} (combined {s = a} {t = b} united h i) =
        brought-if s.one r k (both_sets (type_of a g) (type_of b g)) _ _ (bring-all more s.one r new h)
        (bring-others more s.one r new i h, tt)
    offered-brought {k = k} (combined {s = a} {t = b} shared h i) =
        brought-if s.one r k (both_sets (type_of a g) (type_of b g)) _ _ (bring-shared more s.one r new h i) tt
    offered-brought {k = k} (combined {s = a} {t = b} lessened h i) =
        brought-if s.one r k (both_sets (type_of a g) (type_of b g)) _ _ (bring-others more s.one r new h i) tt

    -- What it offers, whatever tells it.
    pub all-brought : {t : Ex} {k : Kind} → SetTerm cells r t k → AreBrought s.one r k (all_offered s g t)
    all-brought {t} {k} (view n f i p) =
        brought-alone s.one r k (view_listing s.one s.other s.parts t) (view-listed cells more s.one r new (view n f i p) s.other s.parts)
    all-brought (drawn h) = tt
    all-brought {k = k} (combined {s = a} {t = b} united h i) =
        brought-if-at-all s.one r k (both_sets (type_of a g) (type_of b g)) _ _ (bring-all more s.one r new h)
        (bring-others more s.one r new i h, tt)
    all-brought {k = k} (combined {s = a} {t = b} shared h i) =
        brought-if-at-all s.one r k (both_sets (type_of a g) (type_of b g)) _ _ (bring-shared more s.one r new h i) tt
    all-brought {k = k} (combined {s = a} {t = b} lessened h i) =
        brought-if-at-all s.one r k (both_sets (type_of a g) (type_of b g)) _ _ (bring-others more s.one r new h i) tt
