-- Conditions on items, arguments and members of partitions have types.
use Rattle.std.proofs.Common.{◌≡◌, refl, sym, ap, ◌∙◌, true, false, Option, Some, None, option_map, is_some}
use Rattle.ess_semantics.specs.declared.words.Op2.{Op2}
use Rattle.ess_semantics.specs.declared.words.Fun.{Fun}
use Rattle.ess_semantics.specs.Lists.{and_then}
use Rattle.ess_semantics.specs.Values.{Text, a_set, a_mset, a_matrix, a_function, a_partition}
use Rattle.ess_semantics.specs.Names.{Names}
use Rattle.ess_semantics.specs.Trees.{name_pat, Ex, number_ex, truth_ex, name_ex, node_ex, matrix_ex, comp_ex, cell_ex, seen_ex, no_gens, from, ex2, fun1}
use Rattle.ess_semantics.specs.Types.{Ty, Tys, any_ty, bool_ty, compound, no_tys, more_tys, compound1, compound2, join, joins}
use Rattle.ess_semantics.specs.OperatorTypes.{member_ty, extreme_ty, chosen_ty, list_ty, value_ty, part_ty, type_of_word1}
use Rattle.ess_semantics.specs.Typing.{type_of}
use Rattle.ess_guard_laws.specs.Origins.{Origin}
use Rattle.ess_guard_laws.specs.Conditions.{has_items, has_item, some_item, is_argument, image_conditions, party_conditions}
use Rattle.ess_guard_types_laws.specs.HasTypes.{HasTypes}
use Rattle.ess_guard_types_laws.proofs.TypedConditions.{Cond, Conds, unless-conds, fold-cond, two-cond, word-types}
use Rattle.ess_guard_types_laws.proofs.JoinedTypes.{Agree, join-any, turned}

-- ---- items

from-item : (x : Text) (s : Ex) (g : Names Ty) → HasTypes s g → is_some (and_then (type_of s g) member_ty) ≡ true →
    Cond (fun1 true Fun.Or (comp_ex (truth_ex true) (from (name_pat x) s no_gens))) g
from-item x s g h m = fold-cond Fun.Or (truth_ex true) (from (name_pat x) s no_gens) g refl (m, h, tt) (record { typed = tt; bool = refl })

-- That a container has an item.
has-item-cond : (x : Text) (s : Ex) (g : Names Ty) → HasTypes s g → is_some (and_then (type_of s g) member_ty) ≡ true → Cond
    (has_item x s) g
has-item-cond x (comp_ex e gs) g h m = fold-cond Fun.Or (truth_ex true) gs g refl h.0 (record { typed = tt; bool = refl })
has-item-cond x (number_ex n) g h m = from-item x (number_ex n) g h m
has-item-cond x (truth_ex b) g h m = from-item x (truth_ex b) g h m
has-item-cond x (name_ex a) g h m = from-item x (name_ex a) g h m
has-item-cond x (node_ex b op es) g h m = from-item x (node_ex b op es) g h m
has-item-cond x (matrix_ex es d) g h m = from-item x (matrix_ex es d) g h m
has-item-cond x (cell_ex b n es) g h m = from-item x (cell_ex b n es) g h m
has-item-cond x (seen_ex r d ns es) g h m = from-item x (seen_ex r d ns es) g h m

pub some-item-conds : (x : Text) (s : Ex) (g : Names Ty) → HasTypes s g → is_some (and_then (type_of s g) member_ty) ≡ true →
    Conds (some_item x s) g
some-item-conds x s g h m = unless-conds (has_items s) (has_item x s) g (has-item-cond x s g h m)

list-members : (t : Ty) → is_some (and_then (list_ty t) chosen_ty) ≡ true → is_some (member_ty t) ≡ true
list-members (compound a_matrix (more_tys i (more_tys e no_tys))) h = refl
list-members any_ty h = refl
list-members _ h = cc

-- What has a least item has items.
pub extreme-members : (t : Ty) → is_some (extreme_ty t) ≡ true → is_some (member_ty t) ≡ true
extreme-members (compound a_set (more_tys e no_tys)) h = refl
extreme-members (compound a_mset (more_tys e no_tys)) h = refl
extreme-members (compound a_matrix (more_tys i (more_tys e no_tys))) h = refl
extreme-members any_ty h = refl
extreme-members _ h = cc

-- ---- membership

pub fits-bool : (j : Option Ty) → is_some j ≡ true → option_map (λ v. bool_ty) j ≡ Some bool_ty
fits-bool None h = cc
fits-bool (Some v) h = refl

-- A term in a set of what agrees with it.
pub member-cond : (a s : Ex) (t u : Ty) (g : Names Ty) → HasTypes a g → type_of a g ≡ Some t → HasTypes s g → type_of s g ≡ Some
    (compound1 a_set u) → Agree t u → Cond (ex2 true Op2.Member a s) g
member-cond a s t u g ha pa hs ps w = two-cond Op2.Member a s t (compound1 a_set u) g ha hs pa ps (fits-bool (join t u) w)

-- ---- arguments of functions

-- What a function takes.
record Takes (f a : Ty) : Type 0 where
  from_ty : Ty
  defined : type_of_word1 Fun.Defined f ≡ Some (compound1 a_set from_ty)
  agrees : Agree a from_ty

first-of : (x : Option Ty) (y : Option Tys) → is_some (and_then (option_map (compound a_function)
    (and_then x (λ v. option_map (more_tys v) y))) value_ty)
    ≡ true → is_some x ≡ true
first-of None y h = h
first-of (Some v) y h = refl

one-part : (x : Option Ty) (F : Option Ty → Option Tys) → F None ≡ None → ((v : Ty) → F (Some v) ≡ None) →
    is_some (and_then (option_map (compound a_function) (F x)) value_ty) ≡ true → true ≡ false
one-part None F n f h = sym h ∙ ap (λ o. is_some (and_then (option_map (compound a_function) o) value_ty)) n
one-part (Some v) F n f h = sym h ∙ ap (λ o. is_some (and_then (option_map (compound a_function) o) value_ty)) (f v)

many-parts : (x y : Option Ty) → is_some (and_then (option_map (compound a_function) (and_then x (λ v. option_map (more_tys v)
    (and_then y (λ w. option_map (more_tys w) None))))) value_ty) ≡ true → true ≡ false
many-parts None y h = sym h
many-parts (Some v) None h = sym h
many-parts (Some v) (Some w) h = sym h

takes : (f a : Ty) → is_some (and_then (join f (compound2 a_function a any_ty)) value_ty) ≡ true → Takes f a
takes any_ty a h = record { from_ty = any_ty; defined = refl; agrees = ap is_some (join-any a) }
takes (compound a_function (more_tys p (more_tys r no_tys))) a h = record {
  from_ty = p;
  defined = refl;
  agrees = turned p a (first-of (join p a) (joins (more_tys r no_tys) (more_tys any_ty no_tys)) h);
}
takes (compound a_function no_tys) a h = let q : true ≡ false = sym h in record { from_ty = any_ty; defined = cc; agrees = cc }
takes (compound a_function (more_tys p no_tys)) a h =
    let q : true ≡ false = one-part (join p a) (λ o. and_then o (λ v. option_map (more_tys v) None)) refl (λ v. refl) h in
    record { from_ty = any_ty; defined = cc; agrees = cc }
takes (compound a_function (more_tys p (more_tys r (more_tys s ts)))) a h =
    let q : true ≡ false = many-parts (join p a) (join r any_ty) h in record { from_ty = any_ty; defined = cc; agrees = cc }
takes _ a h = record { from_ty = any_ty; defined = cc; agrees = cc }

pub image-conds : (k : Names Origin) (f a : Ex) (t u : Ty) (g : Names Ty) → HasTypes f g → type_of f g ≡ Some t → HasTypes a g →
    type_of a g ≡ Some u → is_some (and_then (join t (compound2 a_function u any_ty)) value_ty) ≡ true → Conds (image_conditions k f a) g
image-conds k f a t u g hf pf ha pa i =
    let w : Takes t u = takes t u i in
    let d = word-types Fun.Defined f t (compound1 a_set w.from_ty) g hf pf w.defined in
    unless-conds (is_argument k f a) _ g (member-cond a (fun1 false Fun.Defined f) u w.from_ty g ha pa d.0 d.1 w.agrees)

-- ---- members of partitions

record Holds (p a : Ty) : Type 0 where
  of_ty : Ty
  participants : type_of_word1 Fun.Participants p ≡ Some (compound1 a_set of_ty)
  agrees : Agree a of_ty

part-of : (x : Option Ty) → is_some (and_then (option_map (compound a_partition)
    (and_then x (λ v. option_map (more_tys v) (Some no_tys)))) part_ty)
    ≡ true → is_some x ≡ true
part-of None h = h
part-of (Some v) h = refl

no-parts : (x : Option Ty) → is_some (and_then (option_map (compound a_partition)
    (and_then x (λ v. option_map (more_tys v) None))) part_ty) ≡ true →
    true ≡ false
no-parts None h = sym h
no-parts (Some v) h = sym h

holds : (p a : Ty) → is_some (and_then (join p (compound1 a_partition a)) part_ty) ≡ true → Holds p a
holds any_ty a h = record { of_ty = any_ty; participants = refl; agrees = ap is_some (join-any a) }
holds (compound a_partition (more_tys q no_tys)) a h =
    record { of_ty = q; participants = refl; agrees = turned q a (part-of (join q a) h) }
holds (compound a_partition no_tys) a h = record { of_ty = any_ty; participants = cc; agrees = cc }
holds (compound a_partition (more_tys q (more_tys r ts))) a h =
    let z : true ≡ false = no-parts (join q a) h in record { of_ty = any_ty; participants = cc; agrees = cc }
holds _ a h = record { of_ty = any_ty; participants = cc; agrees = cc }

pub party-conds : (a p : Ex) (u t : Ty) (g : Names Ty) → HasTypes a g → type_of a g ≡ Some u → HasTypes p g → type_of p g ≡ Some t →
    is_some (and_then (join t (compound1 a_partition u)) part_ty) ≡ true → Conds (party_conditions a p) g
party-conds a p u t g ha pa hp pp i =
    let w : Holds t u = holds t u i in
    let d = word-types Fun.Participants p t (compound1 a_set w.of_ty) g hp pp w.participants in
    (member-cond a (fun1 false Fun.Participants p) u w.of_ty g ha pa d.0 d.1 w.agrees, tt)
