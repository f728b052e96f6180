-- Numbers of 256 bits in two halves: their products, and their order.
-- Main lemmas: `product-halves`, which `Wide::product` rests on, and `nat_cmp-halves`, which `Wide::cmp` rests on.
-- The four products of the halves are added with their carries, which is linear once the products are named.
use Rattle.ct_int.proofs.Base.{◌≡◌, ℕ, ◌+◌, ◌*◌, ◌/◌, ◌%◌, ◌<◌, refl, ◌∙◌, ap₂, arith, Less, Equal, Greater, nat_cmp, MatchOrdering, nat_cmp_is}
use Rattle.ct_int.proofs.Base.{Ordering, mul-le-mul_right, div-add-mod'}
use Rattle.std.proofs.lemmas.Cmp.{ranked}

-- 2 ^ 64 and 2 ^ 128
abbrev pub half : ℕ
half = 18446744073709551616

abbrev pub whole : ℕ
whole = 340282366920938463463374607431768211456

-- products of halves, added with their carries
abbrev pub middle : ℕ → ℕ → ℕ
middle first lowest = first + lowest / half

abbrev pub upper : ℕ → ℕ → ℕ → ℕ
upper first second lowest = second + middle first lowest % half

carried : (highest first second lowest : ℕ) →
    (highest + middle first lowest / half + upper first second lowest / half) * whole + ((upper first second lowest % half) * half + lowest % half) ≡
    highest * whole + first * half + second * half + lowest
carried highest first second lowest = omega arith

multiplied : (a b c d : ℕ) → (a * c) * whole + (a * d) * half + (b * c) * half + b * d ≡ (a * half + b) * (c * half + d)
multiplied a b c d = omega arith

pub product-halves : (a b : ℕ) →
    ((a / half) * (b / half) + middle ((a / half) * (b % half)) ((a % half) * (b % half)) / half + upper ((a / half) * (b % half))
    ((a % half) * (b / half)) ((a % half) * (b % half)) / half) * whole +
    ((upper ((a / half) * (b % half)) ((a % half) * (b / half)) ((a % half) * (b % half)) % half) * half + ((a % half) * (b % half)) % half) ≡ a * b
product-halves a b =
    carried ((a / half) * (b / half)) ((a / half) * (b % half)) ((a % half) * (b / half)) ((a % half) * (b % half))
    ∙ multiplied (a / half) (a % half) (b / half) (b % half) ∙ ap₂ (λ m n. m * n) (div-add-mod' a half) (div-add-mod' b half)

-- numbers are compared by their upper halves, where these differ
pub nat_cmp-halves : (m n j k limit : ℕ) → j < limit → k < limit → (o : Ordering) → o ≡ nat_cmp m n → (o ≡ Equal → ⊥) →
    o ≡ nat_cmp (m * limit + j) (n * limit + k)
nat_cmp-halves m n j k limit first second o same other = nat_cmp_is (m * limit + j) (n * limit + k) o (by o (ranked m n o same) other)
  where
    further : (m n j k : ℕ) → j < limit → m < n → m * limit + j < n * limit + k
    further m n j k small less = omega (arith, mul-le-mul_right limit less)

    by : (o : Ordering) → MatchOrdering o (m < n) (m ≡ n) (n < m) → (o ≡ Equal → ⊥) →
        MatchOrdering o (m * limit + j < n * limit + k) (m * limit + j ≡ n * limit + k) (n * limit + k < m * limit + j)
    by Less h other = further m n j k first h
    by Equal h other = absurd (other refl)
    by Greater h other = further n m k j second h
