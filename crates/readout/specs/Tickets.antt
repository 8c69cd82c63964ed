-- Tickets, and what comes back where one is not taken. Assumes nothing.
use Rattle.std.specs.Prelude.{ℕ, Bool, ◌&&◌, List, [], ◌∷◌, ◌==◌}
use Rattle.denials.specs.declared.Denial.{Denial}
use Rattle.denials.specs.Told.{told}
use Rattle.readout.specs.declared.tickets.Ticket.{Ticket}
use Rattle.readout.specs.declared.tickets.Returned.{Returned}

-- the ticket of a readout's mark for an argument
abbrev pub ticket_of : ℕ → ℕ → Ticket
ticket_of m x = record { mark = m; at = x }

-- the ticket is that of the mark for the argument
abbrev pub is_for : Ticket → ℕ → ℕ → Bool
is_for t m x = t.mark == m && t.at == x

-- a denial with the ticket that comes back
abbrev pub returned : Denial → Ticket → Returned
returned d t = record { denial = d; ticket = t }

-- in numbers: the denial's number, with the ticket's mark and argument
abbrev pub told_back : Returned → ℕ × List ℕ
told_back r = ((told r.denial).0, r.ticket.mark ∷ r.ticket.at ∷ [])
