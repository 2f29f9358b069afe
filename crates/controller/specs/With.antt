-- A controller with one part changed, the others as they were: a helper a field, so that a new field is added here and
-- nowhere else.
use Rattle.session.specs.declared.Session.{Session}
use Rattle.broadcasts.specs.declared.beat.Beat.{Beat}
use Rattle.queries.specs.declared.Queries.{Queries}
use Rattle.controller.specs.declared.Controller.{Controller}

abbrev pub with_session : Controller → Session → Controller
with_session c s = record { settings = c.settings; session = s; beat = c.beat; queries = c.queries }

abbrev pub with_beat : Controller → Beat → Controller
with_beat c b = record { settings = c.settings; session = c.session; beat = b; queries = c.queries }

abbrev pub with_queries : Controller → Queries → Controller
with_queries c q = record { settings = c.settings; session = c.session; beat = c.beat; queries = q }
