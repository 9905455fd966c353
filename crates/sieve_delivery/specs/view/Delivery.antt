-- The meaning of a delivery of the program.
use Rattle.std.specs.Prelude.{map}
use Rattle.std.specs.Option.{option_copied}
use Rattle.sieve_delivery.specs.Delivery.{Arrival, Delivery}
use Rattle.sieve_delivery.specs.declared.delivery.Arrival as arrivals
use Rattle.sieve_delivery.specs.declared.delivery.Delivery as deliveries
use Rattle.sieve_profile.specs.view.Profile.{profile_as}

abbrev pub arrival_as : arrivals.Arrival → Arrival
arrival_as a = record { message = a.message.now; envelope = a.envelope.now; own = option_copied a.own; profile = profile_as a.profile }

abbrev pub delivery_as : deliveries.Delivery → Delivery
delivery_as d = record { arrival = arrival_as d.arrival.now; script = d.script.now; including = map (λ name. name.now) d.including.now }
