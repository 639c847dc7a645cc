-- How what is told goes on over several calls.
use Rattle.std.proofs.Common.{◌≡◌, ℕ, List, [], ◌++◌, take, drop, Option, Some, None, refl, sym, ap, ◌∙◌, append_assoc}
use Rattle.std.proofs.lemmas.List.{append-nil, take-append-drop}
use Rattle.dns_io.specs.Told.{Told, Keeps, Takes, Grows, GrowsByPrefix}

-- two calls, and what holds over both
pub Told-more : {A B C : Type 0} (R : A → B → Type 0) (S : B → C → Type 0) (T : A → C → Type 0) → ((a : A) (b : B) (c : C) → R a b → S b c → T a c) → (a : Option A) (b : Option B) (c : Option C) → Told R a b → Told S b c → Told T a c
Told-more R S T f a b None p q = tt
Told-more R S T f a None (Some z) p q = absurd q
Told-more R S T f None (Some y) (Some z) p q = absurd p
Told-more R S T f (Some x) (Some y) (Some z) p q = f x y z p q

-- what is told of an object that was not called
pub Told-same : {A : Type 0} (R : A → A → Type 0) → ((a : A) → R a a) → (a : Option A) → Told R a a
Told-same R f None = tt
Told-same R f (Some x) = f x

module _ {A : Type 0} where
  pub Keeps-same : (a : Option A) → Keeps a a
  Keeps-same a = Told-same (λ b n. n ≡ b) (λ x. refl) a

  pub Keeps-more : (a b c : Option A) → Keeps a b → Keeps b c → Keeps a c
  Keeps-more = Told-more _ _ _ (λ x y z p q. q ∙ p)

  pub Grows-nothing : (a : Option (List A)) → Grows a a []
  Grows-nothing a = Told-same (λ b n. n ≡ b ++ []) (λ x. sym (append-nil x)) a

  pub Grows-more : (a b c : Option (List A)) (xs ys : List A) → Grows a b xs → Grows b c ys → Grows a c (xs ++ ys)
  Grows-more a b c xs ys = Told-more (λ u v. v ≡ u ++ xs) (λ u v. v ≡ u ++ ys) (λ u v. v ≡ u ++ (xs ++ ys)) (λ x y z p q. q ∙ ap (λ (l : List A). l ++ ys) p ∙ append_assoc x xs ys) a b c

  pub Keeps-Grows : (a b c : Option (List A)) (xs : List A) → Keeps a b → Grows b c xs → Grows a c xs
  Keeps-Grows a b c xs = Told-more (λ u v. v ≡ u) (λ u v. v ≡ u ++ xs) (λ u v. v ≡ u ++ xs) (λ x y z p q. q ∙ ap (λ (l : List A). l ++ xs) p) a b c

  pub Grows-Keeps : (a b c : Option (List A)) (xs : List A) → Grows a b xs → Keeps b c → Grows a c xs
  Grows-Keeps a b c xs = Told-more (λ u v. v ≡ u ++ xs) (λ u v. v ≡ u) (λ u v. v ≡ u ++ xs) (λ x y z p q. q ∙ p) a b c

  pub Takes-more : (a b c : Option (List A)) (xs ys : List A) → Takes a b xs → Takes b c ys → Takes a c (xs ++ ys)
  Takes-more a b c xs ys = Told-more (λ u v. u ≡ xs ++ v) (λ u v. u ≡ ys ++ v) (λ u v. u ≡ (xs ++ ys) ++ v) (λ x y z p q. p ∙ ap (λ (l : List A). xs ++ l) q ∙ sym (append_assoc xs ys z)) a b c

  pub Keeps-Takes : (a b c : Option (List A)) (xs : List A) → Keeps a b → Takes b c xs → Takes a c xs
  Keeps-Takes a b c xs = Told-more (λ u v. v ≡ u) (λ u v. u ≡ xs ++ v) (λ u v. u ≡ xs ++ v) (λ x y z p q. sym p ∙ q) a b c

  pub Takes-Keeps : (a b c : Option (List A)) (xs : List A) → Takes a b xs → Keeps b c → Takes a c xs
  Takes-Keeps a b c xs = Told-more (λ u v. u ≡ xs ++ v) (λ u v. v ≡ u) (λ u v. u ≡ xs ++ v) (λ x y z p q. p ∙ ap (λ (l : List A). xs ++ l) (sym q)) a b c

  pub Grows-GrowsByPrefix : (a b c : Option (List A)) (xs ys rest : List A) → Grows a b xs → GrowsByPrefix b c ys rest → GrowsByPrefix a c (xs ++ ys) rest
  Grows-GrowsByPrefix a b c xs ys rest p q = record {
    front = xs ++ q.front;
    parts = ap (λ (l : List A). xs ++ l) q.parts ∙ sym (append_assoc xs q.front rest);
    grown = Grows-more a b c xs q.front p q.grown;
  }

  pub GrowsByPrefix-more : (a b c : Option (List A)) (items rest : List A) (n : ℕ) → GrowsByPrefix a b items rest → Grows b c (take n rest) → GrowsByPrefix a c items (drop n rest)
  GrowsByPrefix-more a b c items rest n p q = record {
    front = p.front ++ take n rest;
    parts = p.parts ∙ ap (λ (l : List A). p.front ++ l) (sym (take-append-drop n rest)) ∙ sym (append_assoc p.front (take n rest) (drop n rest));
    grown = Grows-more a b c p.front (take n rest) p.grown q;
  }
