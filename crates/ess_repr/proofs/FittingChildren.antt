-- The children of a representation, one or none.
use Rattle.std.proofs.Common.{◌≡◌, refl, sym, ap, ◌∙◌, ℕ, suc, ◌+◌, ◌<◌, ◌≤◌, drop, Bool, true, false, ◌&&◌, List, [], ◌∷◌, map, length, get_or, Option, Some, None, arith}
use Rattle.ess_semantics.specs.Lists.{only_of}
use Rattle.ess_semantics.specs.Choice.{reprs_of}
use Rattle.ess_semantics.specs.Trees as pure
use Rattle.std.proofs.lemmas.List.{at_drop_more, at_drop_all}
use Rattle.ess_semantics.specs.Kinds.{dom_list, doms_of, fits, all_fit}
use Rattle.ess_core.specs.declared.representations.Repr.{Repr}
use Rattle.ess_semantics.specs.declared.words.ReprKind.{ReprKind}
use Rattle.ess_core.specs.declared.representations.Repr.TheViews.{out-Repr}
use Rattle.ess_core.specs.declared.domains.Dom.{Dom}
use Rattle.ess_core.specs.declared.domains.FieldDom.{FieldDom}
use Rattle.ess_core.specs.declared.domains.Dom.TheViews.{out-FieldDom}
use Rattle.ess_core.specs.TreeViews.{pure_repr, pure_dom, pure_doms, pure_field_dom, field_values}
use Rattle.ess_core.proofs.PartEquations.{pure_field_dom_is}
use Rattle.ess_core.proofs.RepresentationEquations.{pure_repr_is}

-- Several trees of the code.
abbrev pub kids : List Repr → pure.Reprs
kids rs = reprs_of (map pure_repr rs)

both-false : (b : Bool) → b && false ≡ false
both-false true = refl
both-false false = refl

and-true : (b : Bool) → b && true ≡ b
and-true true = refl
and-true false = refl

some-injective : {x y : Repr} → Some x ≡ Some y → x ≡ y
some-injective h = cc

pub no_child : (rs : List Repr) → length rs ≡ 0 → all_fit (kids rs) [] ≡ true
no_child [] h = refl
no_child (r ∷ rs) h = cc

pub some_child : (rs : List Repr) → (length rs ≡ 0 → ⊥) → all_fit (kids rs) [] ≡ false
some_child [] h = absurd (h refl)
some_child (r ∷ rs) h = refl

-- A representation of this kind.
pub kind_in : (x : Repr) (k : ReprKind) → (out-Repr x).kind ≡ k → pure_repr x ≡ pure.repr k (kids (out-Repr x).children)
kind_in x k h = pure_repr_is x ∙ ap (λ j. pure.repr j (kids (out-Repr x).children)) h

pub only_none : (rs : List Repr) (d : pure.Dom) → only_of rs ≡ None → all_fit (kids rs) (d ∷ []) ≡ false
only_none [] d h = refl
only_none (r ∷ []) d h = cc
only_none (r ∷ s ∷ rs) d h = both-false (fits (pure_repr r) d)

pub only_some : (rs : List Repr) (r : Repr) (d : pure.Dom) → only_of rs ≡ Some r → all_fit (kids rs) (d ∷ []) ≡ fits (pure_repr r) d
only_some [] r d h = cc
only_some (x ∷ []) r d h = and-true (fits (pure_repr x) d) ∙ ap (λ y. fits (pure_repr y) d) (some-injective h)
only_some (x ∷ s ∷ rs) r d h = cc

-- ---- several children

pub two_fit : (rs : List Repr) (x y : Repr) (d c : pure.Dom) (b : Bool) → length rs ≡ 2 → x ≡ get_or rs 0 x → y ≡ get_or rs 1 y →
    fits (pure_repr x) d ≡ true → b ≡ fits (pure_repr y) c → b ≡ all_fit (kids rs) (d ∷ c ∷ [])
two_fit (r ∷ s ∷ []) x y d c b h i j e f =
    f ∙ ap (λ z. fits (pure_repr z) c) j ∙ sym (and-true (fits (pure_repr s) c))
    ∙ ap (λ p. p && (fits (pure_repr s) c && true)) (sym e ∙ ap (λ z. fits (pure_repr z) d) i)
two_fit [] x y d c b h i j e f = cc
two_fit (r ∷ []) x y d c b h i j e f = absurd (omega arith)
two_fit (r ∷ s ∷ t ∷ rs) x y d c b h i j e f = absurd (omega arith)

pub first_misfits : (rs : List Repr) (x : Repr) (d c : pure.Dom) → length rs ≡ 2 → x ≡ get_or rs 0 x → fits (pure_repr x) d ≡ false →
    all_fit (kids rs) (d ∷ c ∷ []) ≡ false
first_misfits [] x d c h i e = cc
first_misfits (r ∷ rs) x d c h i e = ap (λ p. p && all_fit (kids rs) (c ∷ [])) (ap (λ z. fits (pure_repr z) d) (sym i) ∙ e)

pub not_two : (rs : List Repr) (d c : pure.Dom) → (length rs ≡ 2 → ⊥) → all_fit (kids rs) (d ∷ c ∷ []) ≡ false
not_two [] d c h = refl
not_two (r ∷ []) d c h = both-false (fits (pure_repr r) d)
not_two (r ∷ s ∷ []) d c h = absurd (h refl)
not_two (r ∷ s ∷ t ∷ rs) d c h = ap (λ b. fits (pure_repr r) d && b) (both-false (fits (pure_repr s) c)) ∙ both-false (fits (pure_repr r) d)

-- As many children as domains, each over its own.
module _ {A : Type 0} (P : List A → List pure.Dom) (f : A → pure.Dom) (end : P [] ≡ [])
    (step : (x : A) (xs : List A) → P (x ∷ xs) ≡ f x ∷ P xs) where
  unequal : (rs : List Repr) (xs : List A) → (length rs ≡ length xs → ⊥) → all_fit (kids rs) (P xs) ≡ false
  unequal [] [] h = absurd (h refl)
  unequal [] (x ∷ xs) h = ap (all_fit pure.no_reprs) (step x xs)
  unequal (r ∷ rs) [] h = ap (all_fit (kids (r ∷ rs))) end
  unequal (r ∷ rs) (x ∷ xs) h =
      ap (all_fit (kids (r ∷ rs))) (step x xs)
      ∙ ap (λ b. fits (pure_repr r) (f x) && b) (unequal rs xs (λ e. h (ap suc e))) ∙ both-false (fits (pure_repr r) (f x))

  each-first : (rs : List Repr) (xs : List A) (i : ℕ) (r : Repr) (x : A) → i < length rs → length rs ≡ length xs →
      r ≡ get_or rs i r → x ≡ get_or xs i x →
      all_fit (kids (drop i rs)) (P (drop i xs)) ≡ fits (pure_repr r) (f x) && all_fit (kids (drop (i + 1) rs)) (P (drop (i + 1) xs))
  each-first rs xs i r x h k is js =
      let g : i < length xs = omega arith in
      at_drop_more (λ l. all_fit (kids l) (P (drop i xs))) rs i r h
      ∙ ap (λ q. all_fit (kids (q ∷ drop (i + 1) rs)) (P (drop i xs))) (sym is)
      ∙ at_drop_more (λ l. all_fit (kids (r ∷ drop (i + 1) rs)) (P l)) xs i x g
      ∙ ap (λ q. all_fit (kids (r ∷ drop (i + 1) rs)) (P (q ∷ drop (i + 1) xs))) (sym js)
      ∙ ap (all_fit (kids (r ∷ drop (i + 1) rs))) (step x (drop (i + 1) xs))

  each-more : (rs : List Repr) (xs : List A) (i : ℕ) (r : Repr) (x : A) → i < length rs → length rs ≡ length xs →
      r ≡ get_or rs i r → x ≡ get_or xs i x → fits (pure_repr r) (f x) ≡ true →
      all_fit (kids (drop i rs)) (P (drop i xs)) ≡ all_fit (kids (drop (i + 1) rs)) (P (drop (i + 1) xs))
  each-more rs xs i r x h k is js e =
      each-first rs xs i r x h k is js ∙ ap (λ b. b && all_fit (kids (drop (i + 1) rs)) (P (drop (i + 1) xs))) e

  each-none : (rs : List Repr) (xs : List A) (i : ℕ) (r : Repr) (x : A) → i < length rs → length rs ≡ length xs →
      r ≡ get_or rs i r → x ≡ get_or xs i x → fits (pure_repr r) (f x) ≡ false → all_fit (kids (drop i rs)) (P (drop i xs)) ≡ false
  each-none rs xs i r x h k is js e =
      each-first rs xs i r x h k is js ∙ ap (λ b. b && all_fit (kids (drop (i + 1) rs)) (P (drop (i + 1) xs))) e

  each-all : (rs : List Repr) (xs : List A) (i : ℕ) → length rs ≤ i → length rs ≡ length xs → all_fit (kids (drop i rs)) (P (drop i xs)) ≡ true
  each-all rs xs i h k =
      let g : length xs ≤ i = omega arith in
      at_drop_all (λ l. all_fit (kids l) (P (drop i xs))) rs i h ∙ at_drop_all (λ l. all_fit pure.no_reprs (P l)) xs i g ∙ ap (all_fit pure.no_reprs) end

-- The pure domains of a row, and of fields.
abbrev pub parts : List Dom → List pure.Dom
parts ds = dom_list (pure_doms ds)

abbrev pub field_parts : List FieldDom → List pure.Dom
field_parts fs = dom_list (doms_of (field_values (map pure_field_dom fs)))

field-dom : (x : FieldDom) → (pure_field_dom x).1 ≡ pure_dom (out-FieldDom x).dom
field-dom x = ap (λ f. f.1) (pure_field_dom_is x)

field-step : (x : FieldDom) (xs : List FieldDom) → field_parts (x ∷ xs) ≡ pure_dom (out-FieldDom x).dom ∷ field_parts xs
field-step x xs = ap (λ d. d ∷ field_parts xs) (field-dom x)

pub parts_unequal : (rs : List Repr) (ds : List Dom) → (length rs ≡ length ds → ⊥) → all_fit (kids rs) (parts ds) ≡ false
parts_unequal = unequal parts pure_dom refl (λ x xs. refl)

pub parts_more : (rs : List Repr) (ds : List Dom) (i : ℕ) (r : Repr) (d : Dom) → i < length rs → length rs ≡ length ds →
    r ≡ get_or rs i r → d ≡ get_or ds i d → fits (pure_repr r) (pure_dom d) ≡ true →
    all_fit (kids (drop i rs)) (parts (drop i ds)) ≡ all_fit (kids (drop (i + 1) rs)) (parts (drop (i + 1) ds))
parts_more = each-more parts pure_dom refl (λ x xs. refl)

pub parts_none : (rs : List Repr) (ds : List Dom) (i : ℕ) (r : Repr) (d : Dom) → i < length rs → length rs ≡ length ds →
    r ≡ get_or rs i r → d ≡ get_or ds i d → fits (pure_repr r) (pure_dom d) ≡ false → all_fit (kids (drop i rs)) (parts (drop i ds)) ≡ false
parts_none = each-none parts pure_dom refl (λ x xs. refl)

pub parts_all : (rs : List Repr) (ds : List Dom) (i : ℕ) → length rs ≤ i → length rs ≡ length ds → all_fit (kids (drop i rs)) (parts (drop i ds)) ≡ true
parts_all = each-all parts pure_dom refl (λ x xs. refl)

pub fields_unequal : (rs : List Repr) (fs : List FieldDom) → (length rs ≡ length fs → ⊥) → all_fit (kids rs) (field_parts fs) ≡ false
fields_unequal = unequal field_parts (λ x. pure_dom (out-FieldDom x).dom) refl field-step

pub fields_more : (rs : List Repr) (fs : List FieldDom) (i : ℕ) (r : Repr) (f : FieldDom) → i < length rs → length rs ≡ length fs →
    r ≡ get_or rs i r → f ≡ get_or fs i f → fits (pure_repr r) (pure_dom (out-FieldDom f).dom) ≡ true →
    all_fit (kids (drop i rs)) (field_parts (drop i fs)) ≡ all_fit (kids (drop (i + 1) rs)) (field_parts (drop (i + 1) fs))
fields_more = each-more field_parts (λ x. pure_dom (out-FieldDom x).dom) refl field-step

pub fields_none : (rs : List Repr) (fs : List FieldDom) (i : ℕ) (r : Repr) (f : FieldDom) → i < length rs → length rs ≡ length fs →
    r ≡ get_or rs i r → f ≡ get_or fs i f → fits (pure_repr r) (pure_dom (out-FieldDom f).dom) ≡ false →
    all_fit (kids (drop i rs)) (field_parts (drop i fs)) ≡ false
fields_none = each-none field_parts (λ x. pure_dom (out-FieldDom x).dom) refl field-step

pub fields_all : (rs : List Repr) (fs : List FieldDom) (i : ℕ) → length rs ≤ i → length rs ≡ length fs →
    all_fit (kids (drop i rs)) (field_parts (drop i fs)) ≡ true
fields_all = each-all field_parts (λ x. pure_dom (out-FieldDom x).dom) refl field-step
