-- What holds of the definitions, for the crates above.

-- the packets of a whole turn of a carousel read as exactly the carousel
pub use Rattle.mot_player.proofs.TurnOnce.{turns_read_as_their_carousels}
-- and so they do where the directory is asked for within it, and no turn comes
pub use Rattle.mot_player.proofs.Asked.{ask_directory, keep_turn}
pub use Rattle.mot_player.proofs.TurnOnce.{turns-read, turns-read-with_directories}
-- packets and groups have their continuity indexes, whatever comes between the requests
pub use Rattle.mot_player.proofs.Continuous.{steps-are-continuous}
-- the packets of the first sixteen turns can be sent round and round
pub use Rattle.mot_player.proofs.Rounds.{rounds_are_continuous}
-- further steps, and one more request, go on where the steps before left off
pub use Rattle.mot_player.proofs.GoesOn.{requests-go_on, steps-go_on}
-- a directory that is asked for comes next, changes come next, and bodies that stay go on
pub use Rattle.mot_player.proofs.Staying.{bodies-go_on, directory-comes, requests-take-in-order}
pub use Rattle.mot_player.proofs.Followed.{changes-come-next, changes-go-early}
pub use Rattle.mot_player.proofs.Followed.{replaced-keeps-its_place}
-- of what comes early no more bodies are not begun than may be, whatever comes
pub use Rattle.mot_player.proofs.FewEarly.{StaysFew, few-anew, few-changed, few-followed, few-go-early}
pub use Rattle.mot_player.proofs.FewEarly.{few-heard, few-opened, few-sent, few-steps}
pub use Rattle.mot_player.proofs.FewEarly.{both-counted, none-later, one-numbered}
pub use Rattle.mot_player.proofs.Followed.{fewer-stay, followed-waiting}
pub use Rattle.mot_player.proofs.NotBegun.{first-counted, one-counted}
-- each request brings the end of the turn nearer
pub use Rattle.mot_player.proofs.Ending.{turns-end}
-- where a player stands behind whatever steps, and that a turn begins where one has ended
pub use Rattle.mot_player.proofs.Beginnings.{StandsAt, stands-opened, stands-sent, stands-changed}
pub use Rattle.mot_player.proofs.Beginnings.{stands-heard, place-begins}
-- a turn of which no packet was sent, whatever changes were followed before it, reads as its
-- carousel
pub use Rattle.mot_player.proofs.FreshTurns.{IsApartTurn, IsFresh, apart-carousel, fresh-changed}
pub use Rattle.mot_player.proofs.FreshTurns.{fresh-heard, fresh-opened, fresh-place, fresh-reads}
pub use Rattle.mot_player.proofs.FreshTurns.{fresh-sent, has-directory}
-- where a player begins that sends the newest bodies first
pub use Rattle.mot_player.proofs.FirstBodies.{IsOneOf, newest-few, newest-one}
pub use Rattle.mot_player.proofs.Starts.{few-start, first-bodies, first-left, fresh-start}
pub use Rattle.mot_player.proofs.Starts.{of-some, stands-start, start-continuous}
-- a sound carousel that keeps the rules can be played
pub use Rattle.mot_player.proofs.Ruled.{plays-carousel}
-- What who begins to listen at any packet stands on (`mot_listening`): what a request sends,
-- what a receiver has of segments, and what reads as a turn.
pub use Rattle.mot_player.proofs.Addresses.{one_address, steps-address}
pub use Rattle.mot_player.proofs.Continuous.{AreKinds-turn, IsKind}
pub use Rattle.mot_player.proofs.Followed.{AreBodies, followed-left, of_bodies-directory, renewed}
pub use Rattle.mot_player.proofs.FollowedTurn.{between-put, between-replaced, between-same}
pub use Rattle.mot_player.proofs.FollowedTurn.{between-withdrawn, others-both}
pub use Rattle.mot_player.proofs.FreshReads.{IsOwn, Respects, all-append, all-behind, all-copies}
pub use Rattle.mot_player.proofs.FreshReads.{all-front, all-list, all-received, any-filter}
pub use Rattle.mot_player.proofs.FreshReads.{body-absent, body_of, copies, each-own}
pub use Rattle.mot_player.proofs.FreshReads.{filter-received, had-all, later-id, listed, map-ids}
pub use Rattle.mot_player.proofs.FreshReads.{own-respects, own-whole, read-own, received-front}
pub use Rattle.mot_player.proofs.FreshTurns.{next-ended}
pub use Rattle.mot_player.proofs.Indexes.{some_bytes-group}
pub use Rattle.mot_player.proofs.Left.{is_empty-append, own-directory, some-directory}
pub use Rattle.mot_player.proofs.Followed.{own-followed, place-of_gone}
pub use Rattle.mot_player.proofs.Renewed.{AreOthers, without-place}
pub use Rattle.mot_player.proofs.Repeated.{IsHad, any-front, had-new, heard-left, of_bodies-all}
pub use Rattle.mot_player.proofs.Repeated.{same-self}
pub use Rattle.mot_player.proofs.Staying.{FirstBegun, KeepsTurn, begun_none, first_begun}
pub use Rattle.mot_player.proofs.Staying.{next-keeps, own-heard}
pub use Rattle.mot_player.proofs.Requests.{FirstRequest, first_request, no_steps, packets_of}
pub use Rattle.mot_player.proofs.Rounds.{group-count, is_last, is_more, kept}
pub use Rattle.mot_player.proofs.TurnOnce.{IsWithin, bodies-bodies, front-fit, steps-send}
pub use Rattle.mot_player.proofs.TurnReads.{AreSome, EntityLaws, belongs-cut, belongs-entity}
pub use Rattle.mot_player.proofs.TurnReads.{bodies-some, cut, entry_ids, foreign-directory, ids_of}
pub use Rattle.mot_player.proofs.TurnReads.{own-append, own-numbered_segments}
pub use Rattle.mot_player.proofs.UnderWay.{front_of, group_of}
pub use Rattle.mot_player.proofs.WholeTurn.{IsFit, KeepsIndexes, are_fit-turn, begun-keeps}
pub use Rattle.mot_player.proofs.WholeTurn.{entity-laws, group-index_fits, groups-read, is_group}
