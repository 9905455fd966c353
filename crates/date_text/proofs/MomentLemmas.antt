-- Moments in zones.
use Rattle.std.proofs.Common.{◌≡◌, ℕ, ◌<◌, refl, arith, ℤ, pos, ◌+ℤ◌, ◌-ℤ◌, ◌*ℤ◌, unsigned_abs}
use Rattle.std.specs.Int.{int_div_euclid, int_rem_euclid}
use Rattle.jiff_core.proofs.SignedLemmas.{int_div_euclid-parts, int_rem_euclid-parts, signed_arith, unsigned_abs-parts}
use Rattle.date_text.specs.Moment.{Moment, day_in, minute_in, minutes_in, moment_at}
use Rattle.date_text.specs.Zone.{Zone, shift_of}

-- minutes as days and minutes of a day
in_days : (minutes : ℤ) → (int_div_euclid minutes (pos 1440) *ℤ pos 1440 +ℤ pos (unsigned_abs (int_rem_euclid minutes (pos 1440))) ≡ minutes) × (unsigned_abs (int_rem_euclid minutes (pos 1440)) < 1440)
in_days minutes =
    let day = int_div_euclid-parts minutes 1440 (omega arith) in
    let rest = int_rem_euclid-parts minutes 1440 (omega arith) in
    let size = unsigned_abs-parts (int_rem_euclid minutes (pos 1440)) in
    (omega (arith, signed_arith), omega arith)

-- minutes are days and minutes of a day in one way
only_days : (day minutes : ℤ) (minute : ℕ) → minute < 1440 → day *ℤ pos 1440 +ℤ pos minute ≡ minutes → (int_div_euclid minutes (pos 1440) ≡ day) × (unsigned_abs (int_rem_euclid minutes (pos 1440)) ≡ minute)
only_days day minutes minute small is =
    let parts = in_days minutes in
    let same : int_div_euclid minutes (pos 1440) ≡ day = omega (arith, signed_arith) in
    (same, omega (arith, signed_arith))

pub shifted : (moment : Moment) (zone : Zone) → (day_in moment zone *ℤ pos 1440 +ℤ pos (minute_in moment zone) ≡ minutes_in moment zone) × (minute_in moment zone < 1440)
shifted moment zone = in_days (minutes_in moment zone)

unshifted : (a minutes shift : ℤ) → a ≡ minutes +ℤ shift → a -ℤ shift ≡ minutes
unshifted a minutes shift is = omega (arith, signed_arith)

pub same_moment : (moment : Moment) (zone : Zone) → moment_at (day_in moment zone) (minute_in moment zone) moment.second zone ≡ record { minutes = moment.minutes; second = moment.second; zone = zone }
same_moment moment zone =
    let minutes = unshifted (day_in moment zone *ℤ pos 1440 +ℤ pos (minute_in moment zone)) moment.minutes (shift_of zone) (shifted moment zone).0 in
    rw minutes refl

pub forth : (day : ℤ) (minute second : ℕ) (zone : Zone) → minute < 1440 → (day_in (moment_at day minute second zone) zone ≡ day) × (minute_in (moment_at day minute second zone) zone ≡ minute)
forth day minute second zone small =
    only_days day (minutes_in (moment_at day minute second zone) zone) minute small (omega (arith, signed_arith))
