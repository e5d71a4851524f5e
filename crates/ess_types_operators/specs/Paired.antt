-- Two lists side by side, as the parts of two types of one kind are joined.
use Rattle.std.specs.Prelude.{if◌then◌else◌, List, [], ◌∷◌, Option, Some, None, option_map}
use Rattle.ess_semantics.specs.Lists.{and_then}
use Rattle.ess_semantics.specs.Values.{Text}
use Rattle.ess_semantics.specs.Names.{Names, keys}
use Rattle.ess_semantics.specs.Kinds.{doms_of}
use Rattle.ess_semantics.specs.Trees.{Dom, record_dom}
use Rattle.ess_semantics.specs.Order.{same_text}
use Rattle.ess_semantics.specs.Types as pure
use Rattle.ess_semantics.specs.Types.{Tys, join, tys_of}
use Rattle.ess_core.specs.declared.types.Ty.{Ty}
use Rattle.ess_core.specs.declared.types.FieldTy.{FieldTy}
use Rattle.ess_core.specs.TypeViews.{pure_ty, pure_field_ty, pure_tys}
use Rattle.ess_core.specs.TreeViews.{field_values}

-- What j has of each pair of items, where there are as many on both sides and each pair has something.
abbrev pub paired : {A B : Type 0} → (A → A → Option B) → List A → List A → Option (List B)
paired j [] [] = Some []
paired j (x ∷ xs) (y ∷ ys) = and_then (j x y) (λ v. option_map (λ vs. v ∷ vs) (paired j xs ys))
paired j xs ys = None

-- The type with which both agree.
abbrev pub ty_join : Ty → Ty → Option pure.Ty
ty_join x y = join (pure_ty x) (pure_ty y)

-- The field with which both agree, where they have one name.
abbrev pub named_join : Text × pure.Ty → Text × pure.Ty → Option (Text × pure.Ty)
named_join f g = if same_text f.0 g.0 then option_map (λ v. (f.0, v)) (join f.1 g.1) else None

-- The same of two fields of a record's type.
abbrev pub field_join : FieldTy → FieldTy → Option (Text × pure.Ty)
field_join x y = named_join (pure_field_ty x) (pure_field_ty y)

-- The parts of the join of two relations: one of unknown arity, without parts, has those of the other.
abbrev pub relation_parts : List Ty → List Ty → Option Tys
relation_parts [] ys = Some (pure_tys ys)
relation_parts xs [] = Some (pure_tys xs)
relation_parts xs ys = option_map tys_of (paired ty_join xs ys)

-- A record's domain by its fields.
abbrev pub record_of : Names Dom → Dom
record_of fs = record_dom (keys fs) (doms_of (field_values fs))
