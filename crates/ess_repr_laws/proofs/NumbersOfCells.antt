-- What the constraint of a table of part numbers means: each member's number is in range and comes after the one before it, and the
-- greatest is taken.
use Rattle.std.proofs.Common.{◌≡◌, refl, ap, ◌∙◌, ℕ, suc, ◌<◌, Bool, true, false, ◌&&◌, ◌||◌, if◌then◌else◌, List, [], ◌∷◌, ◌++◌, map, ℤ, pos, ◌+ℤ◌, int_le, int_lt, Option, Some, option_map, le_refl}
use Rattle.std.specs.List.{list_all, list_any}
use Rattle.ess_semantics.specs.declared.words.Op2.{Op2}
use Rattle.ess_semantics.specs.declared.words.Fun.{Fun}
use Rattle.ess_semantics.specs.Lists.{and_then}
use Rattle.ess_semantics.specs.Values.{Text, Value, number, truth}
use Rattle.ess_semantics.specs.Order.{same_int, same_text}
use Rattle.ess_semantics.specs.Names.{look}
use Rattle.ess_semantics.specs.Trees.{Ex, Exs, number_ex, name_ex, comp_ex, no_gens, over, cond, name_pat, Dom, ex2, fun1}
use Rattle.ess_semantics.specs.Domains.{Domain, member_list}
use Rattle.ess_semantics.specs.Membership.{member}
use Rattle.ess_semantics.specs.Operators.{all_true, any_true}
use Rattle.ess_semantics.specs.Atoms.{IsAtom}
use Rattle.ess_semantics.specs.PartitionLayers.{is_part_number}
use Rattle.ess_semantics.specs.Tables.{Table, code, cell_at}
use Rattle.ess_semantics.specs.Meaning.{Env, collect, where_true, meaning, items_under}
use Rattle.ess_semantics.proofs.Connectives.{and-means, or-means, binary-means, all-means, any-means}
use Rattle.ess_semantics.proofs.MemberLists.{atom-listed}
use Rattle.ess_repr_laws.specs.StructureParts.{and_ex, or_ex, le_ex, each_ex, add_ex}
use Rattle.ess_repr_laws.specs.StructureMeaning.{Number, Bound, M, AxesAre}
use Rattle.ess_repr_laws.specs.PartitionParts.{part_number_ex, after_ex, numbered_on_ex, taken_ex}
use Rattle.ess_repr_laws.proofs.CanonicalPlaces.{AllOf, all-of-map, all-of-list}
use Rattle.ess_repr_laws.proofs.NumberedParts.{is_taken, is_numbered_on, is_numbered_well}
use Rattle.ess_repr_laws.proofs.StructureNumbers.{le-means}
use Rattle.ess_repr_laws.proofs.StructureRows.{From, Steady, steady-more, steady-name, looked}
use Rattle.ess_repr_laws.proofs.StructureUse.{cell-means}
use Rattle.ess_repr_laws.proofs.ViewsOfCells.{members-run}
use Rattle.ess_repr_laws.proofs.OrderOfCodes.{below-codes}

-- The truth values of f at those values of which t holds.
abbrev picked : (Value → Bool) → (Value → Bool) → List Value → List Value
picked t f [] = []
picked t f (v ∷ vs) = (if t v then truth (f v) ∷ [] else []) ++ picked t f vs

collect-picked : (vs : List Value) (F : Value → Option (List Value)) (t f : Value → Bool) →
    AllOf vs (λ v. F v ≡ Some (if t v then truth (f v) ∷ [] else [])) → collect vs F ≡ Some (picked t f vs)
collect-picked [] F t f h = refl
collect-picked (v ∷ vs) F t f h =
    ap (λ o. and_then o (λ xs. option_map (λ ys. xs ++ ys) (collect vs F))) h.0
    ∙ ap (option_map (λ ys. (if t v then truth (f v) ∷ [] else []) ++ ys)) (collect-picked vs F t f h.1)

any-picked : (t f : Value → Bool) (vs : List Value) → any_true (picked t f vs) ≡ list_any (λ v. t v && f v) vs
any-picked t f [] = refl
any-picked t f (v ∷ vs) = go (t v) (any-picked t f vs)
  where
    go : (b : Bool) → any_true (picked t f vs) ≡ list_any (λ v. t v && f v) vs →
        any_true ((if b then truth (f v) ∷ [] else []) ++ picked t f vs) ≡ (b && f v) || list_any (λ v. t v && f v) vs
    go true ih = ap (λ b. f v || b) ih
    go false ih = ih

module _ (env0 : Env) (q : ℕ → Text) (q-apart : (m l : ℕ) → l < m → same_text (q m) (q l) ≡ false)
    (x : Domain) (a : IsAtom x) (d : Dom) (ax : AxesAre env0 q q-apart (d ∷ []) (member_list x ∷ []))
    (l : ℕ) (is : Exs) (i : List ℤ) (bs : Bound env0 q q-apart) (st : Steady env0 q q-apart l is i bs)
    (name : Text) (t : Table) (found : look env0.cells name ≡ Some t) (w : Value → ℤ)
    (cells : AllOf (member_list x) (λ v. cell_at t (i ++ (code v ∷ [])) ≡ Some (w v)))
    (top : Ex) (n : ℕ) (top_is : (cs : Bound env0 q q-apart) → From env0 q q-apart l cs → Number top (M env0 q q-apart (cs ++ bs))
    (pos n)) where
  abbrev N : Bound env0 q q-apart → Env
  N = M env0 q q-apart

  abbrev xs : List Value
  xs = member_list x

  -- The cell of a member.
  abbrev Cell : Value → Type 0
  Cell v = (member x v ≡ true) × (cell_at t (i ++ (code v ∷ [])) ≡ Some (w v))

  each-cell : AllOf xs Cell
  each-cell = both xs (let m = atom-listed x a in all-of-list xs (member x) m.members) cells
    where
      both : (zs : List Value) → AllOf zs (λ v. member x v ≡ true) → AllOf zs (λ v. cell_at t (i ++ (code v ∷ [])) ≡ Some (w v)) → AllOf
          zs Cell
      both [] h k = tt
      both (z ∷ zs) h k = ((h.0, k.0), both zs h.1 k.1)

  -- The number of the part of the member u that q l is.
  number-means : (u : Value) → Cell u → (cs : Bound env0 q q-apart) → From env0 q q-apart (suc l) cs →
      Number (part_number_ex q l name is) (N (cs ++ ((l, u) ∷ bs))) (w u)
  number-means u c cs f =
      cell-means env0 q q-apart false name t (add_ex is (name_ex (q l))) (i ++ (code u ∷ [])) (cs ++ ((l, u) ∷ bs)) (w u) found
      (steady-name env0 q q-apart l u is i bs st cs f) c.1

  -- That of the member y that the next name is.
  next-number-means : (u y : Value) → Cell y → Number (part_number_ex q (suc l) name is) (N ((suc l, y) ∷ (l, u) ∷ bs)) (w y)
  next-number-means u y c =
      cell-means env0 q q-apart false name t (add_ex is (name_ex (q (suc l)))) (i ++ (code y ∷ [])) ((suc l, y) ∷ (l, u) ∷ bs) (w y) found
      (steady-name env0 q q-apart (suc l) y is i ((l, u) ∷ bs) (steady-more env0 q q-apart l u is i bs st) [] tt) c.1

  -- A member of the part before stands before u.
  after-means : (u : Value) → Cell u → meaning (after_ex q l d name is) (N ((l, u) ∷ bs)) ≡ Some
      (truth (list_any (λ y. int_lt (code y) (code u) && same_int (w u) (w y +ℤ pos 1)) xs))
  after-means u c =
      any-means (N ((l, u) ∷ bs)) body (over (name_pat (q (suc l))) d (cond test no_gens)) (picked before next xs)
      (ap (λ o. and_then o (λ vs. collect vs (λ y. items_under (cond test no_gens) (N ((suc l, y) ∷ (l, u) ∷ bs)) item)))
      (ax.0 ((l, u) ∷ bs))
      ∙ collect-picked xs (λ y. items_under (cond test no_gens) (N ((suc l, y) ∷ (l, u) ∷ bs)) item) before next
      (all-of-map xs Cell (λ y. items_under (cond test no_gens) (N ((suc l, y) ∷ (l, u) ∷ bs)) item ≡ Some
      (if before y then truth (next y) ∷ [] else [])) one each-cell))
      ∙ ap (λ b. Some (truth b)) (any-picked before next xs)
    where
      body : Ex
      body = ex2 true Op2.Eq (part_number_ex q l name is) (ex2 false Op2.Plus (part_number_ex q (suc l) name is) (number_ex (pos 1)))

      test : Ex
      test = ex2 true Op2.Lt (name_ex (q (suc l))) (name_ex (q l))

      item : Env → Option (List Value)
      item here = option_map (λ v. v ∷ []) (meaning body here)

      before : Value → Bool
      before y = int_lt (code y) (code u)

      next : Value → Bool
      next y = same_int (w u) (w y +ℤ pos 1)

      one : (y : Value) → Cell y → items_under (cond test no_gens) (N ((suc l, y) ∷ (l, u) ∷ bs)) item ≡ Some
          (if before y then truth (next y) ∷ [] else [])
      one y k =
          ap (λ o. where_true o (λ z. item E))
          (binary-means E true Op2.Lt (name_ex (q (suc l))) (name_ex (q l)) y u (looked env0 q q-apart (suc l) y ((l, u) ∷ bs) [] tt)
          (looked env0 q q-apart l u bs ((suc l, y) ∷ []) (le_refl (suc l), tt))
          ∙ ap (λ b. Some (truth b)) (below-codes x a y u k.0 c.0))
          ∙ go (before y)
        where
          E : Env
          E = N ((suc l, y) ∷ (l, u) ∷ bs)

          body-means : meaning body E ≡ Some (truth (next y))
          body-means =
              binary-means E true Op2.Eq (part_number_ex q l name is) (ex2 false Op2.Plus (part_number_ex q (suc l) name is)
              (number_ex (pos 1)))
              (number (w u)) (number (w y +ℤ pos 1)) (number-means u c ((suc l, y) ∷ []) (le_refl (suc l), tt))
              (binary-means E false Op2.Plus (part_number_ex q (suc l) name is) (number_ex (pos 1)) (number (w y)) (number (pos 1))
              (next-number-means u y k) refl)

          go : (b : Bool) → where_true (Some (truth b)) (λ z. item E) ≡ Some (if b then truth (next y) ∷ [] else [])
          go true = ap (option_map (λ v. v ∷ [])) body-means
          go false = refl

  -- A member is numbered well.
  well-means : (u : Value) → Cell u → meaning (numbered_on_ex q l d top name is) (N ((l, u) ∷ bs)) ≡ Some
      (truth (is_numbered_well xs w n u))
  well-means u c =
      and-means E (and_ex (le_ex (number_ex (pos 1)) cell) (le_ex cell top)) (or_ex (ex2 true Op2.Eq (number_ex (pos 1)) cell)
      (after_ex q l d name is))
      (is_part_number n (w u)) (is_numbered_on xs w u)
      (and-means E (le_ex (number_ex (pos 1)) cell) (le_ex cell top) (int_le (pos 1) (w u)) (int_le (w u) (pos n))
      (le-means E (number_ex (pos 1)) cell (pos 1) (w u) refl here) (le-means E cell top (w u) (pos n) here
      (top_is ((l, u) ∷ []) (le_refl l, tt))))
      (or-means E (ex2 true Op2.Eq (number_ex (pos 1)) cell) (after_ex q l d name is) (same_int (pos 1) (w u))
      (list_any (λ y. int_lt (code y) (code u) && same_int (w u) (w y +ℤ pos 1)) xs)
      (binary-means E true Op2.Eq (number_ex (pos 1)) cell (number (pos 1)) (number (w u)) refl here) (after-means u c))
    where
      E : Env
      E = N ((l, u) ∷ bs)

      cell : Ex
      cell = part_number_ex q l name is

      here : Number cell E (w u)
      here = number-means u c [] tt

  all-bits : (f : Value → Bool) (zs : List Value) → all_true (map (λ z. truth (f z)) zs) ≡ list_all f zs
  all-bits f [] = refl
  all-bits f (z ∷ zs) = ap (λ b. f z && b) (all-bits f zs)

  any-bits : (f : Value → Bool) (zs : List Value) → any_true (map (λ z. truth (f z)) zs) ≡ list_any f zs
  any-bits f [] = refl
  any-bits f (z ∷ zs) = ap (λ b. f z || b) (any-bits f zs)

  -- Each member is numbered well.
  pub each-well-means : meaning (each_ex q l (d ∷ []) (numbered_on_ex q l d top name is)) (N bs) ≡ Some
      (truth (list_all (is_numbered_well xs w n) xs))
  each-well-means =
      all-means (N bs) part (over (name_pat (q l)) d no_gens) (map (λ u. truth (is_numbered_well xs w n u)) xs)
      (members-run env0 q q-apart l d no_gens bs (λ here. option_map (λ z. z ∷ []) (meaning part here)) xs
      (λ u. truth (is_numbered_well xs w n u)) (ax.0 bs)
      (all-of-map xs Cell (λ u. option_map (λ z. z ∷ []) (meaning part (N ((l, u) ∷ bs))) ≡ Some (truth (is_numbered_well xs w n u) ∷ []))
      (λ u c. ap (option_map (λ z. z ∷ [])) (well-means u c)) each-cell))
      ∙ ap (λ b. Some (truth b)) (all-bits (is_numbered_well xs w n) xs)
    where
      part : Ex
      part = numbered_on_ex q l d top name is

  -- The greatest number is taken.
  pub taken-means : meaning (taken_ex q l d top name is) (N bs) ≡ Some (truth (is_taken xs w n))
  taken-means =
      or-means (N bs) (ex2 true Op2.Eq top (number_ex (pos 0))) (fun1 true Fun.Or (comp_ex part (over (name_pat (q l)) d no_gens)))
      (same_int (pos n) (pos 0)) (list_any (λ u. same_int (w u) (pos n)) xs)
      (binary-means (N bs) true Op2.Eq top (number_ex (pos 0)) (number (pos n)) (number (pos 0)) (top_is [] tt) refl)
      (any-means (N bs) part (over (name_pat (q l)) d no_gens) (map (λ u. truth (same_int (w u) (pos n))) xs)
      (members-run env0 q q-apart l d no_gens bs (λ here. option_map (λ z. z ∷ []) (meaning part here)) xs
      (λ u. truth (same_int (w u) (pos n))) (ax.0 bs)
      (all-of-map xs Cell (λ u. option_map (λ z. z ∷ []) (meaning part (N ((l, u) ∷ bs))) ≡ Some (truth (same_int (w u) (pos n)) ∷ []))
      (λ u c. ap (option_map (λ z. z ∷ []))
      (binary-means (N ((l, u) ∷ bs)) true Op2.Eq (part_number_ex q l name is) top (number (w u)) (number (pos n)) (number-means u c [] tt)
      (top_is ((l, u) ∷ []) (le_refl l, tt)))) each-cell))
      ∙ ap (λ b. Some (truth b)) (any-bits (λ u. same_int (w u) (pos n)) xs))
    where
      part : Ex
      part = ex2 true Op2.Eq (part_number_ex q l name is) top
