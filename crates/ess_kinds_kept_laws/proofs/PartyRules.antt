-- Of a partition by numbers: the part with a term, and what its parts are listed by.
use Rattle.std.proofs.Common.{◌≡◌, refl, sym, ap, ◌∙◌, ℕ, zero, suc, ◌+◌, ◌≤◌, ◌<◌, Bool, true, false, ◌&&◌, not, if◌then◌else◌, List, [], ◌∷◌, ◌++◌, map, filter, drop, length, ℤ, pos, ◌<ℤ◌, Option, Some, None, option_map, arith, eq-or-lt_of_le, ◌⊎◌, inl, inr}
use Rattle.std.proofs.lemmas.Int.{ints}
use Rattle.std.specs.Ordering.{is_lt}
use Rattle.std.specs.Cmp.{int_cmp_is}
use Rattle.std.specs.declared.cmp.Ordering.TheVariants.{Less, Equal, Greater}
use Rattle.ess_semantics.specs.declared.words.Op2.{Op2}
use Rattle.ess_semantics.specs.declared.words.Fun.{Fun}
use Rattle.ess_semantics.specs.declared.words.ReprKind.{ReprKind}
use Rattle.ess_semantics.specs.Lists.{and_then, all_some}
use Rattle.ess_semantics.specs.Values.{Text, Value, number, truth, from_of, to_of, items_of}
use Rattle.ess_semantics.specs.Order.{same, below}
use Rattle.ess_semantics.specs.Collections.{holds, set_of, sorted_once}
use Rattle.ess_semantics.specs.Numbers.{run_from, one_to}
use Rattle.ess_semantics.specs.Trees.{word, Mark, repr, no_reprs, name_pat, Ex, Exs, name_ex, node_ex, cell_ex, seen_ex, ex2, no_exs, more_exs, no_gens, over, cond, Dom, partition_dom}
use Rattle.ess_semantics.specs.Operators.{value_of_node, part_with}
use Rattle.ess_semantics.specs.Tables.{code, cell_at, is_filled, same_axes}
use Rattle.ess_semantics.specs.Layers.{codes_of}
use Rattle.ess_semantics.specs.FunctionLayers.{with_arguments, function_with}
use Rattle.ess_semantics.specs.Meaning.{Env, meaning, meanings, domain_of, members_in, indices, cell_in, cell_value, collect, where_true}
use Rattle.ess_semantics.specs.Contexts.{EachOf}
use Rattle.ess_semantics.specs.Meets.{Meets}
use Rattle.ess_semantics.specs.Kept.{Keeps}
use Rattle.ess_semantics.proofs.Tests.{and-left, and-right}
use Rattle.ess_semantics.proofs.Orders.{to_list-of_list}
use Rattle.ess_rules_laws.specs.Rules.{Unused}
use Rattle.ess_rules_laws.specs.Listings.{Alternative, items_listed, all_listed}
use Rattle.ess_rules_laws.specs.ListedSources.{Offers}
use Rattle.ess_rules_laws.specs.SetListings.{put_last}
use Rattle.ess_rules_laws.specs.SlotListings.{slots_dom, OffersWhereMet}
use Rattle.ess_rules_laws.proofs.Connectives.{binary-means}
use Rattle.ess_rules_laws.proofs.ArgumentRuns.{atom_index, atom-members-there}
use Rattle.ess_rules_laws.proofs.ListedItems.{counted-same, alone-listed}
use Rattle.ess_rules_laws.proofs.Permutations.{count-perm, sorted_once-perm}
use Rattle.ess_rules_laws.proofs.PlacesOfTables.{cell-place, place-member, listed_in}
use Rattle.ess_rules_laws.proofs.RuleAnswers.{AnswerKeeps, fires, behind, each-any, meaning-behind, meets-behind, name-behind}
use Rattle.ess_rules_laws.proofs.SlotNumbers.{slots-members}
use Rattle.ess_views_laws.specs.PartitionViews.{numbering, part_numbered, partition_party, partition_parts}
use Rattle.ess_views_kept_laws.proofs.ComponentViews.{IsView}
use Rattle.ess_views_kept_laws.proofs.MatrixPlaces.{put-indices, put-met}
use Rattle.ess_views_kept_laws.proofs.UsedMembers.{collect-picked}
use Rattle.ess_kinds_kept_laws.specs.PartitionAsks.{NumbersEnough, Tells, TermTold, PartyAsks}
use Rattle.ess_kinds_kept_laws.proofs.PartNumbering.{Part, Parts, arguments-numbered, party-held, party-none}
use Rattle.ess_kinds_kept_laws.proofs.MemberNumbers.{number_or_0}
use Rattle.ess_kinds_kept_laws.proofs.NumberingView.{PartsView, PartsSeen, parts-seen, few-parts, numbering-view, number-there}

no : {A : Type 0} → false ≡ true → A
no h = cc

nothing-behind : (i : List ℤ) → i ++ [] ≡ i
nothing-behind [] = refl
nothing-behind (k ∷ i) = ap (λ l. k ∷ l) (nothing-behind i)

-- ---- numbers up to another

-- Whether a number is at most q.
abbrev pub up_to_number : ℕ → ℤ → Bool
up_to_number q k = not (below (number (pos q)) (number k))

above : (q a : ℕ) → q < a → up_to_number q (pos a) ≡ false
above q a h = ap (λ o. not (is_lt o)) (sym (int_cmp_is (pos q) (pos a) Less (let e : pos q <ℤ pos a = omega (arith, ints) in e)))

at-most : (q a : ℕ) → a ≤ q → up_to_number q (pos a) ≡ true
at-most q a h = go (eq-or-lt_of_le h)
  where
    go : (a ≡ q) ⊎ (a < q) → up_to_number q (pos a) ≡ true
    go (inl e) = ap (λ o. not (is_lt o)) (sym (int_cmp_is (pos q) (pos a) Equal (ap pos (sym e))))
    go (inr l) = ap (λ o. not (is_lt o)) (sym (int_cmp_is (pos q) (pos a) Greater (let e : pos a <ℤ pos q = omega (arith, ints) in e)))

none-left : (q a n : ℕ) → q < a → filter (up_to_number q) (run_from a n) ≡ []
none-left q a zero h = refl
none-left q a (suc n) h = ap (λ b. if b then pos a ∷ filter (up_to_number q) (run_from (suc a) n)
    else filter (up_to_number q) (run_from (suc a) n)) (above q a h) ∙ none-left q (suc a) n (omega arith)

-- Those of a run up to a number are the first.
pub first-numbers : (q a n b : ℕ) → a + b ≡ q + 1 → b ≤ n → filter (up_to_number q) (run_from a n) ≡ run_from a b
first-numbers q a zero zero h l = refl
first-numbers q a zero (suc b) h l = absurd (omega arith)
first-numbers q a (suc n) zero h l = none-left q a (suc n) (omega arith)
first-numbers q a (suc n) (suc b) h l = ap (λ b. if b then pos a ∷ filter (up_to_number q) (run_from (suc a) n)
    else filter (up_to_number q) (run_from (suc a) n)) (at-most q a (omega arith))
    ∙ ap (λ l. pos a ∷ l) (first-numbers q (suc a) n b (omega arith) (omega arith))

pub collect-values : (f : ℤ → Value) (G : Value → Option (List Value)) (ks : List ℤ) → ((k : ℤ) → G (number k) ≡ Some (f k ∷ [])) →
    collect (map number ks) G ≡ Some (map f ks)
collect-values f G [] h = refl
collect-values f G (k ∷ ks) h = ap (λ o. and_then o (λ xs. option_map (λ ys. xs ++ ys) (collect (map number ks) G))) (h k)
    ∙ ap (option_map (λ ys. f k ∷ ys)) (collect-values f G ks h)

pub each-of-any : (o : Option (List Value)) (P : Value → Type 0) → ((v : Value) → P v) → EachOf o P
each-of-any None P f = tt
each-of-any (Some vs) P f = each-any vs P f

-- ---- index lists whose last index has no value

last-none : (js : Exs) (a : Ex) (env : Env) → meaning a env ≡ None → all_some (meanings (put_last js a) env) ≡ None
last-none no_exs a env q = ap (λ o. and_then o (λ x. option_map (λ xs. x ∷ xs) (Some []))) q
last-none (more_exs e es) a env q = go (meaning e env) (last-none es a env q)
  where
    go : (o : Option Value) → all_some (meanings (put_last es a) env) ≡ None →
        and_then o (λ x. option_map (λ xs. x ∷ xs) (all_some (meanings (put_last es a) env))) ≡ None
    go None h = refl
    go (Some v) h = ap (option_map (λ xs. v ∷ xs)) h

-- ---- the view

module _ (ms : List Mark) (es : Exs) (dd : Dom) (m w : Text) (js : Exs) (env : Env) (met : Meets (PartsView ms es dd m w js env) env)
    (s : PartsSeen ms es dd m w js env) (n : Ex) (enough : NumbersEnough n (PartsView ms es dd m w js env) env) where
  abbrev V : Ex
  V = PartsView ms es dd m w js env

  -- The number of a member.
  abbrev pub Number : Value → ℤ
  Number v = number_or_0 (cell_at s.u (s.i ++ (code v ∷ [])))

  -- The cell with the number of a term.
  abbrev pub NumberOf : Ex → Ex
  NumberOf a = cell_ex false w (put_last js a)

  pub cell-means : (a : Ex) (y : Value) → meaning a env ≡ Some y →
      meaning (NumberOf a) env ≡ option_map (cell_value false) (cell_at s.u (s.i ++ (code y ∷ [])))
  cell-means a y q = ap (λ o. cell_in false o (indices (meanings (put_last js a) env))) s.second_is
      ∙ ap (cell_in false (Some s.u)) (put-indices js a env s.i y s.index_is q)

  pub cell-nowhere : (a : Ex) → meaning a env ≡ None → meaning (NumberOf a) env ≡ None
  cell-nowhere a q = ap (λ o. cell_in false o (indices (meanings (put_last js a) env))) s.second_is
      ∙ ap (λ o. cell_in false (Some s.u) (option_map (map code) o)) (last-none js a env q)

  pub cell-held : (a : Ex) (y : Value) → meaning a env ≡ Some y → holds s.xs y ≡ true → meaning (NumberOf a) env ≡ Some (number (Number y))
  cell-held a y q h = cell-means a y q ∙ ap (option_map (cell_value false)) (number-there ms es dd m w js env met s n enough y h)

  -- What is no member and is told has no number.
  pub no-cell : (y : Value) → Tells y dd env → holds s.xs y ≡ false → cell_at s.u (s.i ++ (code y ∷ [])) ≡ None
  no-cell y told h = go (cell_at s.u (s.i ++ (code y ∷ []))) refl
    where
      go : (o : Option ℤ) → cell_at s.u (s.i ++ (code y ∷ [])) ≡ o → o ≡ None
      go None e = refl
      go (Some z) e = let u = place-member atom_index (code y ∷ []) s.xs
          (ap (listed_in (code y ∷ [])) (sym (atom-members-there s.x s.xs s.members_are))
          ∙ cell-place s.u (codes_of s.x ∷ []) s.i (code y ∷ []) z
          (and-right (is_filled s.u) (same_axes (drop (length s.i) s.u.axes) (codes_of s.x ∷ []))
          (and-left (is_filled s.u && same_axes (drop (length s.i) s.u.axes) (codes_of s.x ∷ [])) true s.over_members)) e) in
          no (sym h ∙ ap (holds s.xs) (sym (told s.xs u.0 (ap members_in s.inner_is ∙ s.members_are) u.1
          (let c : code u.0 ≡ code y = let l : code u.0 ∷ [] ≡ code y ∷ [] = u.2 in cc in c))) ∙ u.1)

  pub cell-missing : (a : Ex) (y : Value) → meaning a env ≡ Some y → Tells y dd env → holds s.xs y ≡ false →
      meaning (NumberOf a) env ≡ None
  cell-missing a y q told h = cell-means a y q ∙ ap (option_map (cell_value false)) (no-cell y told h)

  -- The members with a number.
  pub image-means : (f k : Ex) (here : Env) (z : ℤ) → meaning f here ≡ Some (function_with s.xs (map number (map Number s.xs))) →
      meaning k here ≡ Some (number z) →
      meaning (node_ex false (word Fun.PreImage) (more_exs f (more_exs k no_exs))) here ≡ Some (Part s.xs Number s.c z)
  image-means f k here z p q = ap (λ o. value_of_node (word Fun.PreImage) (o ∷ meaning k here ∷ [])) p
      ∙ ap (λ o. value_of_node (word Fun.PreImage) (Some (function_with s.xs (map number (map Number s.xs))) ∷ o ∷ [])) q
      ∙ ap (λ l. Some (set_of (map from_of (filter (λ p. same (to_of p) (number z)) l))))
      (to_list-of_list (with_arguments s.xs (map number (map Number s.xs))))
      ∙ ap (λ l. Some (set_of l)) (arguments-numbered s.xs (map Number s.xs) z)

  -- ---- the part with a term

  abbrev Image : Ex → Ex
  Image k = node_ex false (word Fun.PreImage) (more_exs (numbering n dd w js) (more_exs k no_exs))

  party-means : (a : Ex) → TermTold a V env →
      meaning (node_ex false (word Fun.Party) (more_exs a (more_exs V no_exs))) env ≡ meaning (Image (NumberOf a)) env
  party-means a told = go (meaning a env) refl
    where
      F : IsView (numbering n dd w js) (function_with s.xs (map number (map Number s.xs))) env
      F = numbering-view ms es dd m w js env met s n enough

      at : (y : Value) → meaning a env ≡ Some y → (b : Bool) → holds s.xs y ≡ b →
          part_with (sorted_once (Parts s.xs Number s.c)) y ≡ meaning (Image (NumberOf a)) env
      at y q true h = party-held s.xs Number s.c s.in_range y h
          ∙ sym (image-means (numbering n dd w js) (NumberOf a) env (Number y) F.means (cell-held a y q h))
      at y q false h = party-none s.xs Number s.c y h
          ∙ sym (ap (λ o. value_of_node (word Fun.PreImage) (meaning (numbering n dd w js) env ∷ o ∷ [])) (cell-missing a y q (told y q) h)
          ∙ ap (λ o. value_of_node (word Fun.PreImage) (o ∷ None ∷ [])) F.means)

      go : (o : Option Value) → meaning a env ≡ o →
          meaning (node_ex false (word Fun.Party) (more_exs a (more_exs V no_exs))) env ≡ meaning (Image (NumberOf a)) env
      go None q = ap (λ o. value_of_node (word Fun.Party) (o ∷ meaning V env ∷ [])) q
          ∙ sym (ap (λ o. value_of_node (word Fun.PreImage) (meaning (numbering n dd w js) env ∷ o ∷ [])) (cell-nowhere a q)
          ∙ ap (λ o. value_of_node (word Fun.PreImage) (o ∷ None ∷ [])) F.means)
      go (Some y) q = ap (λ o. value_of_node (word Fun.Party) (o ∷ meaning V env ∷ [])) q
          ∙ ap (λ o. value_of_node (word Fun.Party) (Some y ∷ o ∷ [])) s.is_value
          ∙ ap (λ l. part_with l y) (to_list-of_list (sorted_once (Parts s.xs Number s.c)))
          ∙ at y q (holds s.xs y) refl

  pub party-keeps : (a : Ex) → TermTold a V env → Meets a env →
      (meaning (node_ex false (word Fun.Party) (more_exs a (more_exs V no_exs))) env ≡ meaning (Image (NumberOf a)) env)
      × Meets (Image (NumberOf a)) env
  party-keeps a told ma = (
    party-means a told,
    ((numbering-view ms es dd m w js env met s n enough).met, (put-met js a env met.2 ma, tt)),
  )

  -- ---- the parts

  -- The number of parts.
  pub marker-means : meaning (cell_ex false m js) env ≡ Some (number (pos s.c))
  marker-means = ap (λ o. cell_in false o (indices (meanings js env))) s.first_is ∙ ap (cell_in false (Some s.t)) s.index_is
      ∙ ap (option_map (cell_value false)) (ap (cell_at s.t) (sym (nothing-behind s.i)) ∙ s.count_is)

  module _ (x : Text) (new : Unused x V) (new-n : Unused x n) where
    abbrev pub UpTo : Ex
    UpTo = ex2 true Op2.Le (name_ex x) (cell_ex false m js)

    -- Whether x is the number of a part.
    pub up-to-says : (k : ℤ) → meaning UpTo (behind x (number k) env) ≡ Some (truth (up_to_number s.c k))
    up-to-says k = binary-means (behind x (number k) env) true Op2.Le (name_ex x) (cell_ex false m js) (number k) (number (pos s.c))
        (name-behind x (number k) env) (meaning-behind x (number k) (cell_ex false m js) env new.1 ∙ marker-means)

    pub up-to-met : (v : Value) → Meets UpTo (behind x v env)
    up-to-met v = (tt, (meets-behind x v (cell_ex false m js) env new.1 met.2, tt))

    -- The numbers.
    pub numbers-listed : members_in (domain_of (slots_dom n) env) ≡ Some (map number (one_to enough.often))
    numbers-listed = slots-members n env enough.often enough.says

    -- The numbers of parts.
    pub numbers-picked : filter (up_to_number s.c) (one_to enough.often) ≡ one_to s.c
    numbers-picked = first-numbers s.c 1 enough.often s.c (omega arith) (few-parts ms es dd m w js env met s n enough)

    abbrev PartHere : Ex
    PartHere = part_numbered n dd w js x

    numbering-unused : Unused x (numbering n dd w js)
    numbering-unused = ((tt, new.0.1, (tt, (new-n, tt))), new.1)

    part-means : (k : ℤ) → meaning PartHere (behind x (number k) env) ≡ Some (Part s.xs Number s.c k)
    part-means k = image-means (numbering n dd w js) (name_ex x) (behind x (number k) env) k
        (meaning-behind x (number k) (numbering n dd w js) env numbering-unused ∙ (numbering-view ms es dd m w js env met s n enough).means)
        (name-behind x (number k) env)

    abbrev Listing : Alternative
    Listing = record { gens = over (name_pat x) (slots_dom n) (cond UpTo no_gens); item = PartHere }

    abbrev At : Value → Option (List Value)
    At v = option_map (λ w. w ∷ []) (meaning PartHere (behind x v env))

    abbrev Tested : Value → Option (List Value)
    Tested v = where_true (meaning UpTo (behind x v env)) (λ u. At v)

    items-are : items_listed Listing env ≡ Some (Parts s.xs Number s.c)
    items-are = ap (λ o. and_then o (λ vs. collect vs Tested)) numbers-listed
        ∙ collect-picked (up_to_number s.c) Tested At (λ k. ap (λ o. where_true o (λ u. At (number k))) (up-to-says k)) (one_to enough.often)
        ∙ ap (λ l. collect (map number l) At) numbers-picked
        ∙ collect-values (Part s.xs Number s.c) At (one_to s.c) (λ k. ap (option_map (λ w. w ∷ [])) (part-means k))

    pub parts-offered : Offers V (Listing ∷ []) env
    parts-offered = record {
      lists = counted-same (option_map items_of (meaning V env)) (all_listed (Listing ∷ []) env)
          (sorted_once (Parts s.xs Number s.c)) (Parts s.xs Number s.c)
          (ap (option_map items_of) s.is_value ∙ ap Some (to_list-of_list (sorted_once (Parts s.xs Number s.c))))
          (alone-listed (items_listed Listing env) ∙ items-are)
          (count-perm (sorted_once-perm (Parts s.xs Number s.c) s.different));
      met = (
        (
          (tt, (enough.met, tt)),
          each-of-any (members_in (domain_of (slots_dom n) env)) _ (λ v. (
            up-to-met v,
            λ z. (
              meets-behind x v (numbering n dd w js) env numbering-unused (numbering-view ms es dd m w js env met s n enough).met,
              (tt, tt),
            ),
          )),
        ),
        tt,
      );
    }

-- ---- the rule and the listing

party-answer : (n e : Ex) (env : Env) → PartyAsks n e env → AnswerKeeps (partition_party n e) e env
party-answer n (node_ex false (word Fun.Party)
    (more_exs a (more_exs (seen_ex (repr ReprKind.PartitionOccurrence no_reprs) (partition_dom ms es d) (m ∷ w ∷ []) js) no_exs))) env c =
    λ h. party-keeps ms es d m w js env h.1.0 (parts-seen ms es d m w js env h.1.0) n c.0 a c.1 h.0
party-answer n _ env c = tt

-- `party(a, v)`.
pub partition_party-keeps : (n e f : Ex) → partition_party n e ≡ Some f → (env : Env) → PartyAsks n e env → Keeps e f env
partition_party-keeps n e f q env c = fires (partition_party n e) e f env (party-answer n e env c) q

-- The parts.
pub partition_parts-offered : (x : Text) (n e : Ex) (env : Env) → Unused x e → Unused x n → Meets e env → NumbersEnough n e env →
    OffersWhereMet (partition_parts x n e) e env
partition_parts-offered x n (seen_ex (repr ReprKind.PartitionOccurrence no_reprs) (partition_dom ms es d) (m ∷ w ∷ []) js) env new new-n h c =
    parts-offered ms es d m w js env h (parts-seen ms es d m w js env h) n c x new new-n
partition_parts-offered x n _ env new new-n h c = tt
