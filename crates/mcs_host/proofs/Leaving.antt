-- The bytes found in a file at its next opening, if the open file ended after an initial part of
-- its calls.
use Rattle.std.proofs.Common.{◌≡◌, ◌⊎◌, inl, inr, ℕ, ◌≤◌, List, [], ◌∷◌, ◌++◌, sym, subst, arith}
use Rattle.mcs_disk.specs.Calls.{DiskCall, Wrote, images_after, clock_of, images_after_since}
use Rattle.mcs_disk.proofs.CallLaws.{clock_only_advances, image_is_image_since}
use Rattle.mcs_host.specs.Ending.{IsInterruptedInWrite}

-- an image after `calls` is still an image since `t` after further calls, if `t` is not later than
-- the clock after `calls`
pub image_is_image_since_earlier_time : (start : List ℕ) (more calls : List DiskCall) (t : ℕ) (c : List ℕ) → t ≤ clock_of calls → images_after start calls c → images_after_since start (more ++ calls) t c
image_is_image_since_earlier_time start [] calls t c le now = image_is_image_since start calls t c now
image_is_image_since_earlier_time start (call ∷ more) calls t c le now = inr (omega (arith, le, clock_only_advances more calls), image_is_image_since_earlier_time start more calls t c le now)

-- If an open file ended after the calls `calls_made`, the bytes found in it at its next opening are
-- an image since `t`. The premise is that `t` is not later than the clock at the end. If the newest
-- of these calls is a write, the end can have interrupted it.
pub found_image_is_image_since : (start : List ℕ) (all more calls_made calls_before_end : List DiskCall) (t : ℕ) (c : List ℕ) → all ≡ more ++ calls_made → (calls_before_end ≡ calls_made) ⊎ IsInterruptedInWrite calls_made calls_before_end → t ≤ clock_of calls_before_end
    → images_after start calls_before_end c → images_after_since start all t c
found_image_is_image_since start all more calls_made calls_before_end t c are (inl complete) le now =
    subst (λ (calls : List DiskCall). images_after_since start calls t c) (sym are)
    (image_is_image_since_earlier_time start more calls_made t c (subst (λ (calls : List DiskCall). t ≤ clock_of calls) complete le) (subst (λ (calls : List DiskCall). images_after start calls c) complete now))
found_image_is_image_since start all more calls_made calls_before_end t c are (inr cut) le now =
    let clock_reached : t ≤ clock_of cut.before = subst (λ (calls : List DiskCall). t ≤ clock_of calls) cut.torn le in
    let image : images_after start (Wrote cut.at cut.bytes ∷ cut.before) c = subst (λ (calls : List DiskCall). images_after start calls c) cut.torn now in
    subst (λ (calls : List DiskCall). images_after_since start calls t c) (sym are)
    (subst (λ (calls : List DiskCall). images_after_since start (more ++ calls) t c) (sym cut.ends_in_write) (image_is_image_since_earlier_time start more (Wrote cut.at cut.bytes ∷ cut.before) t c (omega (arith, clock_reached)) image))
