-- Who we are, and a connection, passed on.
pub use Rattle.connections.specs.Box.{with_framing}
unfoldable pub use Rattle.connections.specs.Box.{own_fits, nobody, start_of, open_of, conn_form, end_conn}
