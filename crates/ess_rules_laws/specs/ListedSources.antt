-- A generator over a term becomes the generators of a listing of the term, and the item of the listing stands in the place of
-- the bound name. The order of items stays only where the listing has the members in order.
use Rattle.std.specs.Prelude.{◌≡◌, Bool, List, [], ◌∷◌, Option, Some, None, IsTrue, is_some, option_map, if◌then◌else◌}
use Rattle.ess_semantics.specs.declared.words.Fun.{Fun}
use Rattle.ess_semantics.specs.Values.{Text, items_of}
use Rattle.ess_semantics.specs.Names.{Names}
use Rattle.ess_semantics.specs.Trees.{word, name_pat, Ex, Exs, comp_ex, fun1, no_exs, more_exs, Gens, from}
use Rattle.ess_semantics.specs.Types.{Ty}
use Rattle.ess_semantics.specs.ExpressionJudgements.{forgets_order}
use Rattle.ess_semantics.specs.Meaning.{Env, meaning}
use Rattle.ess_semantics.specs.Meets.{Meets}
use Rattle.ess_semantics.specs.Kept.{Keeps}
use Rattle.ess_semantics.specs.Substitution.{substitute, substitute_gens, for_name}
use Rattle.ess_rules_laws.specs.Rules.{Unused, OperandsThere}
use Rattle.ess_rules_laws.specs.Listings.{Alternative, items_listed, Lists, listing}
use Rattle.ess_rules_laws.specs.SourceRules.{is_marked, list_of}
use Rattle.ess_rules_laws.specs.SpliceRules.{append_gens, NamesApart}

-- ---- listings that rules may use

-- The comprehension of an alternative: its item, at its generators.
abbrev pub laid_out : Alternative → Ex
laid_out a = comp_ex a.item a.gens

-- The tables meet the structures of each alternative.
abbrev pub AllMet : List Alternative → Env → Type 0
AllMet [] env = Unit {0}
AllMet (a ∷ l) env = Meets (laid_out a) env × AllMet l env

-- The term offers the alternatives: they list its members, and the tables meet their structures.
pub record Offers (s : Ex) (l : List Alternative) (env : Env) : Type 0 where
  pub lists : Lists s l env
  pub met : AllMet l env

-- The same of one alternative that has the members in their order.
pub record OffersInOrder (s : Ex) (a : Alternative) (env : Env) : Type 0 where
  pub items : option_map items_of (meaning s env) ≡ items_listed a env
  pub met : Meets (laid_out a) env

-- ---- the rules

-- `[e | y <- s, hs]` with an alternative of s: `[e' | ks, hs']`, where ks are its generators and y is its item in e and in hs.
abbrev pub put_listed : Text → Ex → Gens → Alternative → Ex
put_listed y e hs a = comp_ex (substitute (for_name y a.item) e) (append_gens a.gens (substitute_gens (for_name y a.item) hs))

-- A comprehension over a term that has one alternative.
abbrev pub source_in_order : Alternative → Ex → Option Ex
source_in_order a (comp_ex e (from (name_pat y) s hs)) = Some (put_listed y e hs a)
source_in_order a e = None

-- The same under a word that forgets order.
abbrev pub source_alone : Alternative → Ex → Option Ex
source_alone a (fun1 m f (comp_ex e (from (name_pat y) s hs))) =
    if forgets_order (word f) then Some (fun1 m f (put_listed y e hs a)) else None
source_alone a e = None

-- The fold over each alternative.
abbrev pub each_put : Bool → Fun → Text → Ex → Gens → List Alternative → Exs
each_put m f y e hs [] = no_exs
each_put m f y e hs (a ∷ l) = more_exs (fun1 m f (put_listed y e hs a)) (each_put m f y e hs l)

-- `F([e | y <- s, hs])` over the alternatives of s: `F([F([e' | ks, hs']), ..])`.
abbrev pub source_parts : List Alternative → Ex → Option Ex
source_parts l (fun1 m f (comp_ex e (from (name_pat y) s hs))) =
    if is_marked m f then Some (fun1 m f (list_of (each_put m f y e hs l))) else None
source_parts l e = None

-- ---- what they count on

-- Bound names are told apart, as where the alternative's comprehension is spliced: r has those that its generators bind, and s
-- has y and the names of its item.
abbrev pub PutApart : (Text → Bool) → (Text → Bool) → Text → Ex → Gens → Alternative → Type 0
PutApart r s y e hs a = NamesApart r s (comp_ex e (from (name_pat y) (laid_out a) hs))

-- The same of each alternative.
abbrev pub EachApart : (Text → Bool) → (Text → Bool) → Text → Ex → Gens → List Alternative → Type 0
EachApart r s y e hs [] = Unit {0}
EachApart r s y e hs (a ∷ l) = PutApart r s y e hs a × EachApart r s y e hs l

-- The same at a comprehension, or at a word of one.
abbrev pub SourceApart : (Text → Bool) → (Text → Bool) → List Alternative → Ex → Type 0
SourceApart r s l (comp_ex e (from (name_pat y) t hs)) = EachApart r s y e hs l
SourceApart r s l (fun1 m f (comp_ex e (from (name_pat y) t hs))) = EachApart r s y e hs l
SourceApart r s l e = Unit {0}

-- The source of the comprehension has a value and offers the alternative in order.
abbrev pub SourceInOrder : Alternative → Ex → Env → Type 0
SourceInOrder a (comp_ex e (from p t hs)) env = IsTrue (is_some (meaning t env)) × OffersInOrder t a env
SourceInOrder a e env = Unit {0}

-- The source of the comprehension of which the word is has a value and offers the alternatives.
abbrev pub SourceOffers : List Alternative → Ex → Env → Type 0
SourceOffers l (fun1 m f (comp_ex e (from p t hs))) env = IsTrue (is_some (meaning t env)) × Offers t l env
SourceOffers l e env = Unit {0}

-- ---- the laws

-- So they keep what they rewrite; several alternatives where the comprehension has a value.
pub record ListedSourcesKeep : Type 0 where
  pub in_order : (r s : Text → Bool) (a : Alternative) (e f : Ex) → source_in_order a e ≡ Some f → SourceApart r s (a ∷ []) e →
      (env : Env) → SourceInOrder a e env → Keeps e f env
  pub alone : (r s : Text → Bool) (a : Alternative) (e f : Ex) → source_alone a e ≡ Some f → SourceApart r s (a ∷ []) e →
      (env : Env) → SourceOffers (a ∷ []) e env → Keeps e f env
  pub in_parts : (r s : Text → Bool) (l : List Alternative) (e f : Ex) → source_parts l e ≡ Some f → SourceApart r s l e →
      (env : Env) → SourceOffers l e env → OperandsThere e env → Keeps e f env

-- The alternatives that a term offers are met where the term is.
abbrev pub ListingsAreMet : Type 0
ListingsAreMet = (g : Names Ty) (x : Text) (e : Ex) (l : List Alternative) → listing g x e ≡ Some l → Unused x e → (env : Env) →
    Meets e env → AllMet l env
