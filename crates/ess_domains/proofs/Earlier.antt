-- What the lettings before a letting have named.
use Rattle.std.proofs.Common.{◌≡◌, refl, ap, sym, ◌∙◌, ℕ, ◌+◌, ◌<◌, Bool, true, false, ◌||◌, not, if◌then◌else◌, List, [], ◌∷◌, ◌++◌, map, take, drop, get_or, length, Option, Some}
use Rattle.std.specs.List.{list_any}
use Rattle.std.proofs.lemmas.List.{take_more, drop_more, map-append}
use Rattle.ess_semantics.specs.Lists.{append_all}
use Rattle.ess_semantics.specs.Values.{Text}
use Rattle.ess_semantics.specs.Order.{same_text}
use Rattle.ess_semantics.specs.Names.{Names, keys, is_among}
use Rattle.ess_semantics.specs.Parameters.{is_accepted, is_extra_type, first_extra_type, first_extra_value}
use Rattle.ess_semantics.specs.Solutions.{first_extra_list}
use Rattle.ess_domains.specs.Assignments.{pure_type_names, pure_named_value}
use Rattle.ess_domains.specs.Earlier.{names_behind, values_behind}
use Rattle.ess_domains.specs.declared.assignments.TypeNames.{TypeNames}
use Rattle.ess_domains.specs.declared.assignments.NamedValue.{NamedValue}
use Rattle.ess_domains.proofs.Givens.{is_among-append, type_keys}

-- ---- one letting more

names_behind-append : {A : Type 0} (ts us : Names A) (done : List Text) → names_behind (ts ++ us) done ≡ names_behind us (names_behind ts done)
names_behind-append [] us done = refl
names_behind-append (t ∷ ts) us done = names_behind-append ts us (t.0 ∷ done)

values_behind-append : (ts us : Names (List Text)) (taken : List Text) → values_behind (ts ++ us) taken ≡ values_behind us (values_behind ts taken)
values_behind-append [] us taken = refl
values_behind-append (t ∷ ts) us taken = values_behind-append ts us (t.1 ++ taken)

mapped_more : {X Y : Type 0} (f : X → Y) (xs : List X) (i : ℕ) (x : X) → i < length xs → x ≡ get_or xs i x → map f (take (i + 1) xs) ≡ map f (take i xs) ++ f x ∷ []
mapped_more f xs i x l e = ap (map f) (take_more xs i x l) ∙ map-append f (take i xs) (get_or xs i x ∷ []) ∙ ap (λ y. map f (take i xs) ++ f y ∷ []) (sym e)

-- The names of the types before the next.
pub types_more : (ts : List TypeNames) (i : ℕ) (t : TypeNames) (done : List Text) → i < length ts → t ≡ get_or ts i t
    → names_behind (map pure_type_names (take (i + 1) ts)) done ≡ t.name ∷ names_behind (map pure_type_names (take i ts)) done
types_more ts i t done l e =
    ap (λ us. names_behind us done) (mapped_more pure_type_names ts i t l e) ∙ names_behind-append (map pure_type_names (take i ts)) (pure_type_names t ∷ []) done

-- The names of the values of the types before the next.
pub items_more : (ts : List TypeNames) (i : ℕ) (t : TypeNames) (taken : List Text) → i < length ts → t ≡ get_or ts i t
    → values_behind (map pure_type_names (take (i + 1) ts)) taken ≡ t.names ++ values_behind (map pure_type_names (take i ts)) taken
items_more ts i t taken l e =
    ap (λ us. values_behind us taken) (mapped_more pure_type_names ts i t l e) ∙ values_behind-append (map pure_type_names (take i ts)) (pure_type_names t ∷ []) taken

-- The names of the values before the next.
pub values_more : (gs : List NamedValue) (i : ℕ) (g : NamedValue) (done : List Text) → i < length gs → g ≡ get_or gs i g
    → names_behind (map pure_named_value (take (i + 1) gs)) done ≡ g.name ∷ names_behind (map pure_named_value (take i gs)) done
values_more gs i g done l e =
    ap (λ us. names_behind us done) (mapped_more pure_named_value gs i g l e) ∙ names_behind-append (map pure_named_value (take i gs)) (pure_named_value g ∷ []) done

-- ---- what stands among them

turned : (p q r : Bool) → q || (p || r) ≡ (p || q) || r
turned true true r = refl
turned true false r = refl
turned false true r = refl
turned false false r = refl

or-none : (b : Bool) → b || false ≡ b
or-none true = refl
or-none false = refl

-- A name stands among those of types, or of what was before.
pub among_types : (ts : List TypeNames) (done : List Text) (x : Text)
    → is_among (names_behind (map pure_type_names ts) done) x ≡ list_any (λ t. same_text t.name x) ts || is_among done x
among_types [] done x = refl
among_types (t ∷ ts) done x = among_types ts (t.name ∷ done) x ∙ turned (same_text t.name x) (list_any (λ t. same_text t.name x) ts) (is_among done x)

-- Where nothing was before, among those of types.
pub among_types_alone : (ts : List TypeNames) (x : Text) → is_among (names_behind (map pure_type_names ts) []) x ≡ list_any (λ t. same_text t.name x) ts
among_types_alone ts x = among_types ts [] x ∙ or-none (list_any (λ t. same_text t.name x) ts)

-- A name stands among those of values, or of what was before.
pub among_values : (gs : List NamedValue) (done : List Text) (x : Text)
    → is_among (names_behind (map pure_named_value gs) done) x ≡ list_any (λ g. same_text g.name x) gs || is_among done x
among_values [] done x = refl
among_values (g ∷ gs) done x = among_values gs (g.name ∷ done) x ∙ turned (same_text g.name x) (list_any (λ g. same_text g.name x) gs) (is_among done x)

-- A name is one of a value of these types, or of what was before.
pub among_items : (ts : List TypeNames) (taken : List Text) (x : Text)
    → is_among (values_behind (map pure_type_names ts) taken) x ≡ list_any (λ t. is_among t.names x) ts || is_among taken x
among_items [] taken x = refl
among_items (t ∷ ts) taken x =
    among_items ts (t.names ++ taken) x
    ∙ ap (λ b. list_any (λ t. is_among t.names x) ts || b) (is_among-append t.names taken x)
    ∙ turned (is_among t.names x) (list_any (λ t. is_among t.names x) ts) (is_among taken x)

-- A name stands among all these lists where it stands among one of them.
pub among_all : {X : Type 0} (f : X → List Text) (xs : List X) (x : Text) → is_among (append_all (map f xs)) x ≡ list_any (λ s. is_among (f s) x) xs
among_all f [] x = refl
among_all f (s ∷ ss) x = is_among-append (f s) (append_all (map f ss)) x ∙ ap (λ b. is_among (f s) x || b) (among_all f ss x)

-- ---- the names before a letting, as code asks for them

-- A value's name is repeated: a type or a value before has it.
pub repeated_value : (ts : List TypeNames) (gs : List NamedValue) (x : Text)
    → is_among (names_behind (map pure_named_value gs) (keys (map pure_type_names ts))) x ≡ list_any (λ t. same_text t.name x) ts || list_any (λ g. same_text g.name x) gs
repeated_value ts gs x =
    among_values gs (keys (map pure_type_names ts)) x
    ∙ ap (λ b. list_any (λ g. same_text g.name x) gs || b) (type_keys ts x)
    ∙ swapped (list_any (λ g. same_text g.name x) gs) (list_any (λ t. same_text t.name x) ts)
  where
    swapped : (p q : Bool) → p || q ≡ q || p
    swapped true true = refl
    swapped true false = refl
    swapped false true = refl
    swapped false false = refl

-- A name is taken: by a value of a type before, by a statement, or by a value of an unnamed type.
pub taken_before : (ts : List TypeNames) (ds us : List Text) (x : Text)
    → is_among (values_behind (map pure_type_names ts) (ds ++ us)) x ≡ list_any (λ t. is_among t.names x) ts || (is_among ds x || is_among us x)
taken_before ts ds us x =
    among_items ts (ds ++ us) x ∙ ap (λ b. list_any (λ t. is_among t.names x) ts || b) (is_among-append ds us x)

-- ---- one letting more that isn't too many

drop_at : {X : Type 0} (xs : List X) (i : ℕ) (x : X) → i < length xs → x ≡ get_or xs i x → drop i xs ≡ x ∷ drop (i + 1) xs
drop_at xs i x l e = drop_more xs i x l ∙ ap (λ y. y ∷ drop (i + 1) xs) (sym e)

-- A value that is new, and whose name is one of fs.
pub value_on : (fs done : List Text) (gs : List NamedValue) (i : ℕ) (g : NamedValue) → i < length gs → g ≡ get_or gs i g
    → is_among (names_behind (map pure_named_value (take i gs)) done) g.name ≡ false → is_among fs g.name ≡ true
    → first_extra_value fs (map pure_named_value (drop i gs)) (names_behind (map pure_named_value (take i gs)) done)
    ≡ first_extra_value fs (map pure_named_value (drop (i + 1) gs)) (names_behind (map pure_named_value (take (i + 1) gs)) done)
value_on fs done gs i g l e new known =
    ap (λ xs. first_extra_value fs (map pure_named_value xs) (names_behind (map pure_named_value (take i gs)) done)) (drop_at gs i g l e)
    ∙ ap (λ b. if b || not (is_among fs g.name) then Some g.name else rest) new
    ∙ ap (λ b. if not b then Some g.name else rest) known
    ∙ ap (first_extra_value fs (map pure_named_value (drop (i + 1) gs))) (sym (values_more gs i g done l e))
  where
    rest : Option Text
    rest = first_extra_value fs (map pure_named_value (drop (i + 1) gs)) (g.name ∷ names_behind (map pure_named_value (take i gs)) done)

-- A list of names in a solution that changes nothing, or stands for a find's value.
pub list_on : (fs : List Text) (us : Names ℕ) (ts : List TypeNames) (i : ℕ) (t : TypeNames) → i < length ts → t ≡ get_or ts i t
    → is_among (names_behind (map pure_type_names (take i ts)) []) t.name ≡ false → is_among fs t.name || is_accepted us t.name t.names ≡ true
    → first_extra_list fs us (map pure_type_names (drop i ts)) (names_behind (map pure_type_names (take i ts)) [])
    ≡ first_extra_list fs us (map pure_type_names (drop (i + 1) ts)) (names_behind (map pure_type_names (take (i + 1) ts)) [])
list_on fs us ts i t l e new known =
    ap (λ xs. first_extra_list fs us (map pure_type_names xs) (names_behind (map pure_type_names (take i ts)) [])) (drop_at ts i t l e)
    ∙ ap (λ b. if b || not (is_among fs t.name || is_accepted us t.name t.names) then Some t.name else rest) new
    ∙ ap (λ b. if not b then Some t.name else rest) known
    ∙ ap (first_extra_list fs us (map pure_type_names (drop (i + 1) ts))) (sym (types_more ts i t [] l e))
  where
    rest : Option Text
    rest = first_extra_list fs us (map pure_type_names (drop (i + 1) ts)) (t.name ∷ names_behind (map pure_type_names (take i ts)) [])

-- A type of a parameter that isn't too many.
pub type_on : (gs es : List Text) (us : Names ℕ) (taken : List Text) (ts : List TypeNames) (i : ℕ) (t : TypeNames) → i < length ts → t ≡ get_or ts i t
    → is_extra_type gs es us (names_behind (map pure_type_names (take i ts)) []) (values_behind (map pure_type_names (take i ts)) taken) t.name t.names ≡ false
    → first_extra_type gs es us (map pure_type_names (drop i ts)) (names_behind (map pure_type_names (take i ts)) []) (values_behind (map pure_type_names (take i ts)) taken)
    ≡ first_extra_type gs es us (map pure_type_names (drop (i + 1) ts)) (names_behind (map pure_type_names (take (i + 1) ts)) [])
    (values_behind (map pure_type_names (take (i + 1) ts)) taken)
type_on gs es us taken ts i t l e new =
    ap (λ xs. first_extra_type gs es us (map pure_type_names xs) (names_behind (map pure_type_names (take i ts)) []) (values_behind (map pure_type_names (take i ts)) taken)) (drop_at ts i t l e)
    ∙ ap (λ b. if b then Some t.name else first_extra_type gs es us (map pure_type_names (drop (i + 1) ts)) (t.name ∷ names_behind (map pure_type_names (take i ts)) [])
    (t.names ++ values_behind (map pure_type_names (take i ts)) taken)) new
    ∙ ap (λ d. first_extra_type gs es us (map pure_type_names (drop (i + 1) ts)) d (t.names ++ values_behind (map pure_type_names (take i ts)) taken)) (sym (types_more ts i t [] l e))
    ∙ ap (first_extra_type gs es us (map pure_type_names (drop (i + 1) ts)) (names_behind (map pure_type_names (take (i + 1) ts)) [])) (sym (items_more ts i t taken l e))
