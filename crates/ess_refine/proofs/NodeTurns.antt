-- What a pass makes of a node, by its form.
use Rattle.std.proofs.Common.{◌≡◌, refl, sym, ap, ap₂, ◌∙◌, subst, Bool, List, [], Option, Some, None}
use Rattle.std.specs.Prelude.{option_map}
use Rattle.ess_semantics.specs.Values.{Text}
use Rattle.ess_semantics.specs.Names.{Names}
use Rattle.ess_semantics.specs.Trees.{Ex, seen_ex}
use Rattle.ess_semantics.specs.Types.{Ty}
use Rattle.ess_semantics.specs.Contexts.{hole, fill}
use Rattle.ess_semantics.specs.NamesAt.{names_behind, names_at}
use Rattle.ess_core.specs.TreeViews.{pure_repr}
use Rattle.ess_core.specs.declared.representations.Repr.{Repr}
use Rattle.ess_core_nodes.specs.declared.words.Op.{Op}
use Rattle.ess_core_nodes.specs.declared.nodes.Node.TheVariants as node
use Rattle.ess_core_nodes.specs.declared.nodes.Node.{Node}
use Rattle.ess_core_nodes.specs.declared.nodes.Gen.{Gen}
use Rattle.ess_core_nodes.specs.declared.nodes.Gen.TheViews.{out-Seen}
use Rattle.ess_core_nodes.specs.declared.nodes.Seen.{Seen, roll-Seen}
use Rattle.ess_core_nodes.specs.declared.nodes.NodeDom.{NodeDom}
use Rattle.ess_core_nodes.specs.NodeViews.{pure_node, pure_nodes, pure_gens, pure_dom, pure_seen, pure_op}
use Rattle.ess_core_nodes.proofs.NodeEquations.{pure_seen_is}
use Rattle.ess_refine.specs.Passes.{IsTaken, Passes, AllPass, GensPass, DomPasses}
use Rattle.ess_refine.specs.declared.passing.Turns.{Turns}
use Rattle.ess_refine.proofs.NodeForms.{pure_operator, pure_matrix_on, pure_comprehension, pure_cell, pure_view, pure_made}
use Rattle.ess_refine.proofs.Chains.{passes-none, passes-once, passes-then, passes-from}
use Rattle.ess_refine.proofs.Parts.{operands_pass, index_passes, matrix_passes, comprehension_passes, view_passes}

-- No name was taken.
abbrev pub Stays : Turns → Turns → Type 0
Stays o n = n.next ≡ o.next

-- A rule at the root.
pub turn_passes : (o n : Turns) (g : Names Ty) (a : Ex) (f : Option Node) (x y : Node) → IsTaken o g a (option_map pure_node f) n
    → f ≡ Some x → y ≡ x → Passes o g a (pure_node y) n
turn_passes o n g a f x y h e d = subst (λ z. Passes o g a (pure_node z) n) (sym d)
    (let t : IsTaken o g a (Some (pure_node x)) n = subst (λ p. IsTaken o g a (option_map pure_node p) n) e h in
    passes-once fill names_at o n g hole a (pure_node x) t)

-- None there.
pub none_turn : (o n : Turns) (g : Names Ty) (a : Ex) (f : Option Node) → IsTaken o g a (option_map pure_node f) n → f ≡ None → Stays o n
none_turn o n g a f h e = subst (λ p. IsTaken o g a (option_map pure_node p) n) e h

pub stays_turn : (o n : Turns) (g : Names Ty) (x y : Node) → Stays o n → x ≡ y → Passes o g (pure_node x) (pure_node y) n
stays_turn o n g x y h e =
    subst (λ z. Passes o g (pure_node x) (pure_node z) n) e (passes-none fill names_at o n g (pure_node x) h)

-- Equal trees.
passes-as : (o n : Turns) (g : Names Ty) (x y : Node) (a b : Ex) → pure_node x ≡ a → pure_node y ≡ b → Passes o g a b n
    → Passes o g (pure_node x) (pure_node y) n
passes-as o n g x y a b e q w =
    subst (λ z. Passes o g z (pure_node y) n) (sym e) (subst (λ z. Passes o g a z n) (sym q) w)

-- ---- by the form

pub op_turn : (o k n : Turns) (g : Names Ty) (x : Node) (b : Bool) (op : Op) (es fs : List Node) → Stays o k → x ≡ node.Op b op es
    → AllPass k g (pure_nodes es) (pure_nodes fs) n → Passes o g (pure_node x) (pure_node (node.Op b op fs)) n
op_turn o k n g x b op es fs h e w =
    passes-as o n g x (node.Op b op fs) _ _ (ap pure_node e ∙ pure_operator b op es) (pure_operator b op fs)
    (passes-from fill names_at o k n g _ _ h (operands_pass k n g b (pure_op op) (pure_nodes es) (pure_nodes fs) w))

pub cell_turn : (o k n : Turns) (g : Names Ty) (x : Node) (b : Bool) (a : Text) (es fs : List Node) → Stays o k → x ≡ node.Cell b a es
    → AllPass k g (pure_nodes es) (pure_nodes fs) n → Passes o g (pure_node x) (pure_node (node.Cell b a fs)) n
cell_turn o k n g x b a es fs h e w = passes-as o n g x (node.Cell b a fs) _ _ (ap pure_node e ∙ pure_cell b a es) (pure_cell b a fs)
    (passes-from fill names_at o k n g _ _ h (index_passes k n g b a (pure_nodes es) (pure_nodes fs) w))

pub matrix_turn : (o k l n : Turns) (g : Names Ty) (x : Node) (es fs : List Node) (d e : NodeDom) → Stays o k → x ≡ node.MatrixOn es d
    → AllPass k g (pure_nodes es) (pure_nodes fs) l → DomPasses l g (pure_dom d) (pure_dom e) n
    → Passes o g (pure_node x) (pure_node (node.MatrixOn fs e)) n
matrix_turn o k l n g x es fs d e h q w z =
    passes-as o n g x (node.MatrixOn fs e) _ _ (ap pure_node q ∙ pure_matrix_on es d) (pure_matrix_on fs e)
    (passes-from fill names_at o k n g _ _ h
    (matrix_passes k l n g (pure_nodes es) (pure_nodes fs) (pure_dom d) (pure_dom e) w z))

pub comp_turn : (o k l n : Turns) (g u : Names Ty) (x e f : Node) (gs hs is : List Gen) → Stays o k → x ≡ node.Comp e gs
    → GensPass k g (pure_gens gs) (pure_gens hs) l → is ≡ hs → u ≡ names_behind (pure_gens is) g
    → Passes l u (pure_node e) (pure_node f) n → Passes o g (pure_node x) (pure_node (node.Comp f hs)) n
comp_turn o k l n g u x e f gs hs is h q w i b z =
    passes-as o n g x (node.Comp f hs) _ _ (ap pure_node q ∙ pure_comprehension e gs) (pure_comprehension f hs)
    (passes-from fill names_at o k n g _ _ h
    (comprehension_passes k l n g (pure_node e) (pure_node f) (pure_gens gs) (pure_gens hs) w
    (subst (λ v. Passes l (names_behind (pure_gens v) g) (pure_node e) (pure_node f) n) i
    (subst (λ v. Passes l v (pure_node e) (pure_node f) n) b z))))

-- The parts of a view.
pub parts_turn : (o k n : Turns) (g : Names Ty) (v : Seen) (r : Repr) (xs : List Text) (e : NodeDom) (fs : List Node)
    → r ≡ (out-Seen v).repr → xs ≡ (out-Seen v).cells → DomPasses o g (pure_dom (out-Seen v).dom) (pure_dom e) k
    → AllPass k g (pure_nodes (out-Seen v).at) (pure_nodes fs) n
    → Passes o g (pure_seen v) (pure_seen (roll-Seen record { repr = r; dom = e; cells = xs; at = fs })) n
parts_turn o k n g v r xs e fs p q w z =
    subst (λ a. Passes o g a (pure_seen (roll-Seen record { repr = r; dom = e; cells = xs; at = fs })) n) (sym (pure_seen_is v))
    (subst (λ b. Passes o g (seen_ex (pure_repr (out-Seen v).repr) (pure_dom (out-Seen v).dom) (out-Seen v).cells
    (pure_nodes (out-Seen v).at)) b n)
    (ap₂ (λ r xs. seen_ex (pure_repr r) (pure_dom e) xs (pure_nodes fs)) (sym p) (sym q) ∙ sym (pure_made r e xs fs))
    (view_passes o k n g (pure_repr (out-Seen v).repr) (pure_dom (out-Seen v).dom) (pure_dom e) (out-Seen v).cells
    (pure_nodes (out-Seen v).at) (pure_nodes fs) w z))

pub view_stays : (o : Turns) (g : Names Ty) (v : Seen) → Passes o g (pure_seen v) (pure_seen v) o
view_stays o g v = passes-none fill names_at o o g (pure_seen v) refl

pub view_turn : (o k n : Turns) (g : Names Ty) (x : Node) (v u w : Seen) → Stays o k → x ≡ node.Seen v → u ≡ v
    → Passes k g (pure_seen u) (pure_seen w) n → Passes o g (pure_node x) (pure_node (node.Seen w)) n
view_turn o k n g x v u w h e q z =
    passes-as o n g x (node.Seen w) _ _ (ap pure_node (e ∙ ap node.Seen (sym q)) ∙ pure_view u) (pure_view w)
    (passes-from fill names_at o k n g _ _ h z)

-- In a box.
pub boxed_turn : (o n : Turns) (g : Names Ty) (x a b y : Node) → a ≡ x → Passes o g (pure_node a) (pure_node b) n → y ≡ b
    → Passes o g (pure_node x) (pure_node y) n
boxed_turn o n g x a b y q w e =
    subst (λ z. Passes o g (pure_node z) (pure_node y) n) q (subst (λ z. Passes o g (pure_node a) (pure_node z) n) (sym e) w)

-- ---- passes

-- One pass more, under no names.
pub pass_more : (o k n : Turns) (g : Names Ty) (a x old new y : Node) → Passes o [] (pure_node a) (pure_node x) k → g ≡ []
    → old ≡ x → Passes k g (pure_node old) (pure_node new) n → y ≡ new → Passes o [] (pure_node a) (pure_node y) n
pass_more o k n g a x old new y w e q z d = passes-then fill names_at o k n [] (pure_node a) (pure_node x) (pure_node y) w
    (subst (λ v. Passes k [] (pure_node x) (pure_node v) n) (sym d)
    (subst (λ v. Passes k [] (pure_node v) (pure_node new) n) q
    (subst (λ v. Passes k v (pure_node old) (pure_node new) n) e z)))
