-- A member in the place of a name that was bound over members of its kind leaves a tree over views.
use Rattle.std.proofs.Common.{◌≡◌, refl, sym, ap, ◌∙◌, subst, ℕ, Bool, true, false, not, if◌then◌else◌, List, [], ◌∷◌, Option, Some}
use Rattle.std.specs.Prelude.{IsTrue, is_some}
use Rattle.ess_semantics.specs.declared.words.ReprKind.{ReprKind}
use Rattle.ess_semantics.specs.Values.{Text}
use Rattle.ess_semantics.specs.Order.{same_text}
use Rattle.ess_semantics.specs.Names.{Names, look}
use Rattle.ess_semantics.specs.Trees.{repr, no_reprs, Ex, Exs, name_ex, seen_ex, more_exs, Gens, Dom}
use Rattle.ess_semantics.specs.Meaning.{is_bool_dom}
use Rattle.ess_semantics.specs.Substitution.{substitute, substitute_exs, substitute_dom, for_name, NamesAre, NamesAreExs, NamesAreGens, NamesAreDom}
use Rattle.ess_semantics.proofs.Texts.{same_text-equal, same_text-itself}
use Rattle.ess_seen_laws.specs.Seen.{Kind, scalars, sets_of, kind_of, Bound, over_a_range, over_slots, from_a_set, bound_kind, Places, no_place, at_slot, SetTerm, view, drawn, combined, Seen, number, truth, named, counted, figure, flag, atom, one, two, chosen, folded, of_items, size, within, set_within, compared, Listed, last_item, item_before, Indices, no_index, one_index, Going, at_end, through, through_slots, among, where_holds, Range, truths, numbers}
use Rattle.ess_seen_laws.specs.SeenParts.{AllBound}
use Rattle.ess_seen_laws.specs.Putting.{Within, BindsNone, BindNone, IsItem, Puts, GensPut, ListPut}
use Rattle.ess_seen_laws.proofs.Written.{keeps-written, written-fixed}
use Rattle.ess_seen_laws.proofs.Counts.{counted-put}
use Rattle.ess_seen_laws.proofs.More.{set-more, seen-more, going-appended}

-- ---- names

-- Every name, and those outside of s.
abbrev any : Text → Bool
any a = true

abbrev outside : (Text → Bool) → Text → Bool
outside s a = not (s a)

-- What is in s is no name outside of it.
apart : (s : Text → Bool) (x a : Text) → IsTrue (not (s x)) → IsTrue (s a) → same_text x a ≡ false
apart s x a n h = go (same_text x a) (λ q. ap s (same_text-equal x a q))
  where
    go : (v : Bool) → (v ≡ true → s x ≡ s a) → v ≡ false
    go false f = refl
    go true f = clash (s x) (f refl ∙ h) n
      where
        clash : (b : Bool) → b ≡ true → IsTrue (not b) → true ≡ false
        clash true q m = sym m
        clash false q m = sym q

same-bound : (o : Option Bound) (b c : Bound) → o ≡ Some b → o ≡ Some c → Some b ≡ Some c
same-bound o b c p q = sym p ∙ q

-- The kind of what is bound so.
kind-said : (b : Bound) (k : Kind) → Some b ≡ Some (from_a_set k) → bound_kind b ≡ k
kind-said (over_a_range m) k q = cc
kind-said (over_slots n) k q = cc
kind-said (from_a_set j) k q = cc

no-slots : (n : ℕ) (k : Kind) → Some (over_slots n) ≡ Some (from_a_set k) → ⊥
no-slots n k q = cc

set-said : (j k : Kind) → Some (from_a_set j) ≡ Some (from_a_set k) → j ≡ k
set-said j k q = cc

module _ (cells : Text → Option (Bool × List ℕ)) (s : Text → Bool) (y : Text) (h : Ex) where
  -- Under a name that isn't in s the term may be put in too.
  puts-more : {r t : Names Bound} (x : Text) (b : Bound) → IsTrue (not (s x)) → Puts cells s y h r t →
      Puts cells s y h ((x, b) ∷ r) ((x, b) ∷ t)
  puts-more {r} {t} x b n p = record {
    kind = p.kind;
    bound = subst (λ v. (if v then Some b else look r y) ≡ Some (from_a_set p.kind)) (sym (apart s x y n p.itself)) p.bound;
    others = λ a c q g. other a c (same_text x a) (p.others a c q) g;
    base = p.base;
    item = p.item;
    within = λ a c g. subst (λ v. (if v then Some b else look t a) ≡ Some c) (sym (apart s x a n (p.covered a (there (look p.base a) c g))))
        (p.within a c g);
    covered = p.covered;
    itself = p.itself;
  }
    where
      other : (a : Text) (c : Bound) (v : Bool) → (look r a ≡ Some c → look t a ≡ Some c) → (if v then Some b else look r a) ≡ Some c →
          (if v then Some b else look t a) ≡ Some c
      other a c true f g = g
      other a c false f g = f g

      there : (o : Option Bound) (c : Bound) → o ≡ Some c → IsTrue (is_some o)
      there o c g = ap is_some g

  -- ---- names and places

  -- The name itself, or another one.
  name-put : {r t : Names Bound} {b : Bound} {m : Bool} (a : Text) → Puts cells s y h r t → look r a ≡ Some b → bound_kind b ≡ scalars m →
      Seen cells t (for_name y h a) m
  name-put {r} {t} {b} {m} a p q k = go (same_text y a) (λ g. ap (look r) (same_text-equal y a g)) (λ g. p.others a b g q)
    where
      as-scalar : (j : Kind) → j ≡ scalars m → IsItem cells p.base h j → Seen cells p.base h m
      as-scalar j e i = subst (λ w. IsItem cells p.base h w) e i

      go : (v : Bool) → (v ≡ true → look r y ≡ look r a) → (v ≡ false → look t a ≡ Some b) → Seen cells t (if v then h else name_ex a) m
      go true f g = seen-more cells p.within
          (as-scalar p.kind (sym (kind-said b p.kind (sym q ∙ (sym (f refl) ∙ p.bound))) ∙ k) p.item)
      go false f g = named (g refl) k

  set-name-put : {r t : Names Bound} {k : Kind} (a : Text) → Puts cells s y h r t → look r a ≡ Some (from_a_set (sets_of k)) →
      SetTerm cells t (for_name y h a) k
  set-name-put {r} {t} {k} a p q =
      go (same_text y a) (λ g. ap (look r) (same_text-equal y a g)) (λ g. p.others a (from_a_set (sets_of k)) g q)
    where
      as-set : (j : Kind) → j ≡ sets_of k → IsItem cells p.base h j → SetTerm cells p.base h k
      as-set j e i = subst (λ w. IsItem cells p.base h w) e i

      go : (v : Bool) → (v ≡ true → look r y ≡ look r a) → (v ≡ false → look t a ≡ Some (from_a_set (sets_of k))) →
          SetTerm cells t (if v then h else name_ex a) k
      go true f g =
          set-more cells p.within (as-set p.kind (sym (set-said (sets_of k) p.kind (sym q ∙ (sym (f refl) ∙ p.bound)))) p.item)
      go false f g = drawn (g refl)

  -- The same of places.
  pub places-put : {r t : Names Bound} {es : Exs} {ks : List ℕ} → Puts cells s y h r t → Places cells r es ks →
      Places cells t (substitute_exs (for_name y h) es) ks
  places-put p no_place = no_place
  places-put {r} {t} p (at_slot {a = a} {es = es} {k = k} {ks = ks} q i) =
      go (same_text y a) (λ g. ap (look r) (same_text-equal y a g)) (λ g. p.others a (over_slots k) g q) (places-put p i)
    where
      go : (v : Bool) → (v ≡ true → look r y ≡ look r a) → (v ≡ false → look t a ≡ Some (over_slots k)) →
          Places cells t (substitute_exs (for_name y h) es) ks →
          Places cells t (more_exs (if v then h else name_ex a) (substitute_exs (for_name y h) es)) (k ∷ ks)
      go true f g j = absurd (no-slots k p.kind (sym q ∙ (sym (f refl) ∙ p.bound)))
      go false f g j = at_slot (g refl) j

  -- The same of a set.
  pub set-put : {r t : Names Bound} {e : Ex} {k : Kind} → Puts cells s y h r t → SetTerm cells r e k →
      SetTerm cells t (substitute (for_name y h) e) k
  set-put {t = t} p (view {p = w} {ms = ms} {es = es} {js = js} {d = d} {ns = ns} n f k i) =
      subst (λ c. SetTerm cells t (seen_ex w c ns (substitute_exs (for_name y h) js)) (kind_of d))
      (sym (written-fixed (for_name y h) (keeps-written k))) (view n f k (places-put p i))
  set-put p (drawn {a = a} q) = set-name-put a p q
  set-put p (combined c u v) = combined c (set-put p u) (set-put p v)

  -- ---- trees

  mutual
    pub seen-put : {r t : Names Bound} {e : Ex} {m : Bool} → Puts cells s y h r t → NamesAre any (outside s) e → Seen cells r e m →
        Seen cells t (substitute (for_name y h) e) m
    seen-put p n number = number
    seen-put p n truth = truth
    seen-put p n (named {a = a} q k) = name-put a p q k
    seen-put p n (counted c) = counted (counted-put (for_name y h) c)
    seen-put p n (figure q i) = figure q (places-put p i)
    seen-put p n (flag q i) = flag q (indices-put p n i)
    seen-put {t = t} p n (atom {d = d} {n = l} {js = js} k i) =
        subst (λ c. Seen cells t (seen_ex (repr ReprKind.Atom no_reprs) c (l ∷ []) (substitute_exs (for_name y h) js)) (is_bool_dom d))
        (sym (written-fixed (for_name y h) (keeps-written k))) (atom k (places-put p i))
    seen-put p n (one o f) = one o (seen-put p n.0 f)
    seen-put p n (two o f g) = two o (seen-put p n.0 f) (seen-put p n.1.0 g)
    seen-put p n (chosen f) = chosen (seen-put p n.0 f)
    seen-put p n (folded o g f) = let k = going-put p n.0.1 g in folded o k.going (seen-put k.puts n.0.0 f)
    seen-put p n (of_items o l) = of_items o (listed-put p n.0 l)
    seen-put p n (size v) = size (set-put p v)
    seen-put p n (within f v) = within (seen-put p n.0 f) (set-put p v)
    seen-put p n (set_within u v) = set_within (set-put p u) (set-put p v)
    seen-put p n (compared c u v) = compared c (set-put p u) (set-put p v)

    listed-put : {r t : Names Bound} {es : Exs} {m : Bool} → Puts cells s y h r t → NamesAreExs any (outside s) es → Listed cells r es m →
        Listed cells t (substitute_exs (for_name y h) es) m
    listed-put p n (last_item f) = last_item (seen-put p n.0 f)
    listed-put p n (item_before f l) = item_before (seen-put p n.0 f) (listed-put p n.1 l)

    indices-put : {r t : Names Bound} {es : Exs} {k : ℕ} → Puts cells s y h r t → NamesAreExs any (outside s) es → Indices cells r es k →
        Indices cells t (substitute_exs (for_name y h) es) k
    indices-put p n no_index = no_index
    indices-put p n (one_index f i) = one_index (seen-put p n.0 f) (indices-put p n.1 i)

    pub going-put : {r t u : Names Bound} {gs : Gens} → Puts cells s y h r t → NamesAreGens any (outside s) gs → Going cells r gs u →
        GensPut cells s y h u t gs
    going-put {t = t} p n at_end = record { behind = t; going = at_end; puts = p }
    going-put p n (through {m = m} {a = a} d g) =
        let k = going-put (puts-more a (over_a_range m) n.0 p) n.2 g in
        record { behind = k.behind; going = through (range-put p n.1 d) k.going; puts = k.puts }
    going-put p n (through_slots {k = j} {a = a} c g) =
        let k = going-put (puts-more a (over_slots j) n.0 p) n.2 g in
        record { behind = k.behind; going = through_slots (counted-put (for_name y h) c) k.going; puts = k.puts }
    going-put p n (among {k = j} {a = a} v g) =
        let k = going-put (puts-more a (from_a_set j) n.0 p) n.2 g in
        record { behind = k.behind; going = among (set-put p v) k.going; puts = k.puts }
    going-put p n (where_holds f g) =
        let k = going-put p n.1 g in record { behind = k.behind; going = where_holds (seen-put p n.0 f) k.going; puts = k.puts }

    range-put : {r t : Names Bound} {d : Dom} {m : Bool} → Puts cells s y h r t → NamesAreDom any (outside s) d → Range cells r d m →
        Range cells t (substitute_dom (for_name y h) d) m
    range-put p n truths = truths
    range-put p n (numbers f g) = numbers (seen-put p n.0 f) (seen-put p n.1.0 g)

-- ---- an alternative in the place of a source

head-look : (r : Names Bound) (y : Text) (b : Bound) → look ((y, b) ∷ r) y ≡ Some b
head-look r y b = ap (λ v. if v then Some b else look r y) (same_text-itself y)

-- The item of an alternative serves the name that ran over the source.
alternative-puts : (cells : Text → Option (Bool × List ℕ)) (s : Text → Bool) (r t : Names Bound) (y : Text) (k : Kind) (h : Ex) →
    Within r t → IsItem cells t h k → AllBound s t → IsTrue (s y) → Puts cells s y h ((y, from_a_set k) ∷ r) t
alternative-puts cells s r t y k h w i c q = record {
  kind = k;
  bound = head-look r y (from_a_set k);
  others = λ a b n g. w a b (subst (λ v. (if v then Some (from_a_set k) else look r a) ≡ Some b) n g);
  base = t;
  item = i;
  within = λ a b g. g;
  covered = c;
  itself = q;
}

-- So it may stand in the place of the source.
pub list-put : (cells : Text → Option (Bool × List ℕ)) (s : Text → Bool) (r t u : Names Bound) (y : Text) (k : Kind) (ks hs : Gens)
    (h e : Ex) (m : Bool) → Going cells r ks t → Within r t → IsItem cells t h k → AllBound s t → IsTrue (s y) → BindNone s hs →
    BindsNone s e → Going cells ((y, from_a_set k) ∷ r) hs u → Seen cells u e m → ListPut cells r y h ks hs e m
list-put cells s r t u y k ks hs h e m g w i c q n b j f =
    let p = going-put cells s y h (alternative-puts cells s r t y k h w i c q) n j in
    record { behind = p.behind; going = going-appended cells g p.going; seen = seen-put cells s y h p.puts b f }
