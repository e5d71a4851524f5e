-- What the rules of products that conditions choose, of sizes and of memberships make of a tree over views is one with the same mark.
use Rattle.std.proofs.Common.{◌≡◌, refl, ap, ◌∙◌, ℕ, suc, zero, Bool, true, false, List, ◌∷◌, pos, Option, Some, None}
use Rattle.ess_semantics.specs.declared.words.Op2.{Op2}
use Rattle.ess_semantics.specs.declared.words.Fun.{Fun}
use Rattle.ess_semantics.specs.Values.{Text}
use Rattle.ess_semantics.specs.Names.{Names, look}
use Rattle.ess_semantics.specs.Trees.{Ex, ex2, fun1}
use Rattle.ess_semantics.specs.Typing.{type_of}
use Rattle.ess_rules_laws.specs.ChoiceRules.{choice_shorter}
use Rattle.ess_rules_laws.specs.MembershipRules.{member_term}
use Rattle.ess_rules_laws.specs.SizeRules.{is_counted, size_term}
use Rattle.ess_flat_laws.specs.Flat.{denied, absolute, both, equal, product}
use Rattle.ess_flat_laws.proofs.Asked.{unasked}
use Rattle.ess_seen_laws.specs.ess_bare_laws.Lean.{of_all, of_some, of_sum}
use Rattle.ess_seen_laws.specs.Seen.{Kind, scalars, sets_of, kind_ty, Bound, from_a_set, bound_types, alike, so_many, drawn, Seen, number, named, one, two, counted, chosen, folded, of_items, size as sized, within, set_within, compared, at_end, among}
use Rattle.ess_seen_laws.specs.Laws.{SeenTreesHaveTypes, SeenTreesStayAmongMore}
use Rattle.ess_seen_laws.specs.Putting.{Within}
use Rattle.ess_seen_stays_laws.proofs.Terms.{look-here}
use Rattle.ess_seen_stays_laws.proofs.MadePlainly.{Made, made-either, made-none}

-- Scalars aren't counted.
mark-uncounted : (m : Bool) → is_counted (Some (kind_ty (scalars m))) ≡ false
mark-uncounted true = refl
mark-uncounted false = refl

module _ (cells : Text → Option (Bool × List ℕ)) (r : Names Bound) where
  -- ---- products

  -- A number that a condition chooses, as often as another one, or once.
  by-second : {c y : Ex} {k : Bool} → Seen cells r c true → Seen cells r y k →
      Made cells r false (choice_shorter (ex2 false Op2.Times (fun1 false Fun.ToInt c) y))
  by-second f (number {i = pos (suc zero)}) = chosen f
  by-second f (counted (so_many {n = suc zero})) = chosen f
  by-second g (one denied f) = tt
  by-second g (two both f h) = tt
  by-second g (chosen f) = chosen (two both g f)
  by-second g (folded of_all k f) = tt
  by-second g (of_items of_all l) = tt
  by-second g f = tt

  by-first : {x y : Ex} {m k : Bool} → Seen cells r x m → Seen cells r y k → Made cells r false (choice_shorter (ex2 false Op2.Times x y))
  by-first (one denied f) g = tt
  by-first (two both f h) g = tt
  by-first (chosen f) g = by-second f g
  by-first (counted so_many) g = tt
  by-first (folded of_all k f) g = tt
  by-first (of_items of_all l) g = tt
  by-first f g = tt

  -- So the shorter form is such a tree.
  pub chosen-shorter : {e : Ex} {m : Bool} → Seen cells r e m → Made cells r m (choice_shorter e)
  chosen-shorter (one denied f) = tt
  chosen-shorter (two product f h) = by-first f h
  chosen-shorter (counted so_many) = tt
  chosen-shorter (folded of_all k f) = tt
  chosen-shorter (of_items of_all l) = tt
  chosen-shorter f = tt

  -- ---- sizes and memberships

  module _ (types : SeenTreesHaveTypes) (x : Text) where
    -- The size of a set is the number of its members; an absolute value isn't one.
    pub size-made : {e : Ex} {m : Bool} → Seen cells r e m → Made cells r m (size_term (bound_types r) x e)
    size-made (one {x = e} absolute f) = made-none cells r false _ (unasked _
        (ap is_counted (types.of_scalars cells r e false f) ∙ mark-uncounted false))
    size-made (two both f h) = tt
    size-made (counted so_many) = tt
    size-made (folded of_all k f) = tt
    size-made (of_items of_all l) = tt
    size-made (sized {s = s} h) = made-either cells (is_counted (type_of s (bound_types r))) _ (folded of_sum (among h at_end) number)
    size-made f = tt

  module _ (more : SeenTreesStayAmongMore) (x : Text) (new : look r x ≡ None) where
    -- A name that is bound over members of this kind.
    abbrev T : Kind → Names Bound
    T k = (x, from_a_set k) ∷ r

    wider : (k : Kind) → Within r (T k)
    wider k = more.new_name r x (from_a_set k) new

    -- `a in s` is that some member y of s is a, where y is a new name.
    pub member-made : {e : Ex} {m : Bool} → Seen cells r e m → Made cells r m (member_term x e)
    member-made (one denied f) = tt
    member-made (two both f h) = tt
    member-made (counted so_many) = tt
    member-made (folded of_all k f) = tt
    member-made (of_items of_all l) = tt
    member-made (within {m = m} {a = a} f h) =
        let k : Kind = scalars m in
        folded of_some (among h at_end) (two equal (named (look-here r x (from_a_set k)) refl)
        (more.seen cells r (T k) a m (wider k) f))
    member-made (set_within {k = j} {a = a} f h) =
        let k : Kind = sets_of j in
        folded of_some (among h at_end) (compared alike (drawn (look-here r x (from_a_set k)))
        (more.set cells r (T k) a j (wider k) f))
    member-made (compared alike f h) = tt
    member-made f = tt
