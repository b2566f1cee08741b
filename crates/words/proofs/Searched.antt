-- Tests at every label and at some choice: what they say, and that equal tests give equal answers. Assumes nothing.
use Rattle.std.proofs.Common.{◌≡◌, ℕ, ◌^◌, ◌<◌, Bool, true, false, Decides, sym, refl, ◌∙◌}
use Rattle.std.proofs.lemmas.Bool.{both_ways, false_from_ne_true}
use Rattle.std.proofs.lemmas.Bool.Decides.{Decides-below_and, Decides-below_or, same_from_decides, Decides-like}
use Rattle.words.specs.Bits.{all_below, some_below, every_label, some_choice}

-- a test of booleans is itself
itself : (b : Bool) → Decides b (b ≡ true)
itself b = (λ e. e, λ e. e)

-- two tests that are true together are equal
pub same_truth : (a b : Bool) → (a ≡ true → b ≡ true) → (b ≡ true → a ≡ true) → a ≡ b
same_truth a b f g = same_from_decides a b (f, g) (itself b)

-- a test that passes everywhere below n passes at each number there
pub all_below_each : (n : ℕ) (p : ℕ → Bool) → all_below n p ≡ true → (k : ℕ) → k < n → p k ≡ true
all_below_each n p = (Decides-below_and p (λ k. p k ≡ true) (λ m. all_below m p) (λ k. itself (p k)) refl (λ _. refl) n).0

-- every label passes exactly if each one below 64 does
pub every_label_each : (p : ℕ → Bool) → Decides (every_label p) ((l : ℕ) → l < 64 → p l ≡ true)
unfolding every_label
every_label_each p = Decides-below_and p (λ l. p l ≡ true) (λ n. all_below n p) (λ l. itself (p l)) refl (λ _. refl) 64

pub every_label_same : (p q : ℕ → Bool) → ((l : ℕ) → l < 64 → p l ≡ q l) → every_label p ≡ every_label q
every_label_same p q e =
    let ps = Decides-like (every_label p) (λ f l h. sym (e l h) ∙ f l h) (λ f l h. e l h ∙ f l h) (every_label_each p) in
    same_from_decides (every_label p) (every_label q) ps (every_label_each q)

-- some choice passes exactly if there is one
pub some_choice_one : (p : ℕ → Bool) → Decides (some_choice p) ((c : ℕ) × (c < 2 ^ 64) × (p c ≡ true))
unfolding some_choice
some_choice_one p = Decides-below_or p (λ c. p c ≡ true) (λ n. some_below n p) (λ c. itself (p c)) refl (λ _. refl) (2 ^ 64)

-- one choice that passes
pub some_choice_by : (p : ℕ → Bool) (c : ℕ) → c < 2 ^ 64 → p c ≡ true → some_choice p ≡ true
some_choice_by p c h e = (some_choice_one p).1 (c, h, e)

-- no choice passes
pub no_choice : (p : ℕ → Bool) → ((c : ℕ) → p c ≡ false) → some_choice p ≡ false
no_choice p none = false_from_ne_true (some_choice p) (λ t. let w = (some_choice_one p).0 t in both_ways (p w.0) (none w.0) w.2)
